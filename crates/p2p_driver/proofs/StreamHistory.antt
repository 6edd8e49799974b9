-- The streams that came and haven't left, after one more happening.
use Rattle.std.proofs.Common.{◌≡◌, ℕ, ◌==◌, ◌+◌, ◌<◌, ◌≤◌, Bool, true, false, not, ◌||◌, cond, List, [], ◌∷◌, ◌++◌, Option, Some, None, find, filter, map, refl, sym, ◌∙◌, ap, subst}
use Rattle.std.proofs.Common.{arith}
use Rattle.std.proofs.lemmas.Bool.Decides.{nat_tests}
use Rattle.std.specs.Prelude.{if◌then◌else◌, option_map}
use Rattle.std.specs.Option.{option_or}
use Rattle.std.specs.List.{list_any, count_by}
use Rattle.std.proofs.lemmas.List.Sums.{sum_by-cons}
use Rattle.std.specs.declared.time.Duration.{Duration}
use Rattle.std.proofs.lemmas.List.Folds.{find-append}
use Rattle.p2p_tracker.specs.History.{last_with, found_with}
use Rattle.p2p_driver.specs.declared.arrivals.Arrival.{Arrival}
use Rattle.p2p_driver.specs.declared.arrivals.Room.{Room}
use Rattle.p2p_driver.specs.declared.arrivals.Room.TheVariants as room
use Rattle.p2p_driver.specs.declared.origin.Origin.{Origin}
use Rattle.p2p_driver.specs.Arrivals.{has_number, arrival_of, arrived, with_claim, claimed}
use Rattle.p2p_driver.specs.Happenings.{Happening, next_at, stream_at, stream_since, came_by, leaves_by, claim_by, is_new, gave_way}
use Rattle.p2p_driver.specs.Drivers.{AreStreams, Rise}

-- THE LIST

module _ {C : Type 0} where
  rise_from : (m n k : ℕ) (xs : List (Arrival C)) → m ≤ n → Rise n xs k → Rise m xs k
  rise_from m n k [] up rise = grind (arith)
  rise_from m n k (a ∷ xs) up rise = (grind (arith), rise.1)

  rise_to : (m k l : ℕ) (xs : List (Arrival C)) → k ≤ l → Rise m xs k → Rise m xs l
  rise_to m k l [] up rise = grind (arith)
  rise_to m k l (a ∷ xs) up rise = (rise.0, rise_to a.number k l xs up rise.1)

  -- streams that are left out leave the others in order
  pub rise_filter : (p : Arrival C → Bool) (m k : ℕ) (xs : List (Arrival C)) → Rise m xs k →
      Rise m (filter p xs) k
  rise_filter p m k [] rise = rise
  rise_filter p m k (a ∷ xs) rise = go (p a) rise.0 (rise_filter p a.number k xs rise.1)
    where
      go : (b : Bool) → m < a.number → Rise a.number (filter p xs) k →
          Rise m (cond b (a ∷ filter p xs) (filter p xs)) k
      go true less rest = (less, rest)
      go false less rest = rise_from m a.number k (filter p xs) (grind (arith)) rest

  -- one more, of the next number
  pub rise_append : (m n : ℕ) (a : Arrival C) (xs : List (Arrival C)) → a.number ≡ n → Rise m xs n →
      Rise m (xs ++ a ∷ []) (n + 1)
  rise_append m n a [] is rise = (subst (λ k. m < k) (sym is) rise, grind (arith))
  rise_append m n a (x ∷ xs) is rise = (rise.0, rise_append x.number n a xs is rise.1)

  -- streams that keep their numbers
  pub rise_map : (f : Arrival C → Arrival C) → ((a : Arrival C) → (f a).number ≡ a.number) →
      (m k : ℕ) (xs : List (Arrival C)) → Rise m xs k → Rise m (map f xs) k
  rise_map f same m k [] rise = rise
  rise_map f same m k (a ∷ xs) rise = (
    subst (λ j. m < j) (sym (same a)) rise.0,
    subst (λ j. Rise j (map f xs) k) (sym (same a)) (rise_map f same a.number k xs rise.1),
  )

  -- none has the next number
  pub not_yet : (m n : ℕ) (xs : List (Arrival C)) → Rise m xs n → find (has_number n) xs ≡ None
  not_yet m n [] rise = refl
  not_yet m n (a ∷ xs) rise =
      ap (λ b. cond b (Some a) (find (has_number n) xs)) (other a.number xs rise.1)
      ∙ not_yet a.number n xs rise.1
    where
      above : (k : ℕ) (ys : List (Arrival C)) → Rise k ys n → k < n
      above k [] rise = rise
      above k (y ∷ ys) rise = let further = above y.number ys rise.1 in grind (arith)

      other : (k : ℕ) (ys : List (Arrival C)) → Rise k ys n → (k == n) ≡ false
      other k ys rise = let less = above k ys rise in grind (arith, nat_tests)

  -- of all but one number
  pub find_others : (n j : ℕ) (xs : List (Arrival C)) →
      find (has_number j) (filter (λ a. not (has_number n a)) xs)
      ≡ (if n == j then None else find (has_number j) xs)
  find_others n j [] = none (n == j)
    where
      none : (b : Bool) → None ≡ if◌then◌else◌ {A = Option (Arrival C)} b None None
      none true = refl
      none false = refl
  find_others n j (a ∷ xs) = go (a.number == n) same both (find_others n j xs)
    where
      others : List (Arrival C)
      others = filter (λ a. not (has_number n a)) xs

      same : (a.number == n) ≡ true → (a.number == j) ≡ (n == j)
      same is = grind (arith, nat_tests)

      both : (a.number == n) ≡ false → (a.number == j) ≡ true → (n == j) ≡ false
      both isnt is = grind (arith, nat_tests)

      skip : (e t : Bool) → t ≡ e → if◌then◌else◌ {A = Option (Arrival C)} e None (find (has_number j) xs)
          ≡ (if e then None else cond t (Some a) (find (has_number j) xs))
      skip true t is = refl
      skip false t is = ap (λ b. cond b (Some a) (find (has_number j) xs)) (sym is)

      keep : (t e : Bool) → (t ≡ true → e ≡ false) →
          find (has_number j) others ≡ (if e then None else find (has_number j) xs) →
          cond t (Some a) (find (has_number j) others)
          ≡ (if e then None else cond t (Some a) (find (has_number j) xs))
      keep true e differ before = ap (λ b. if◌then◌else◌ {A = Option (Arrival C)} b None (Some a)) (sym (differ refl))
      keep false e differ before = before

      go : (at_n : Bool) → (at_n ≡ true → (a.number == j) ≡ (n == j)) →
          (at_n ≡ false → (a.number == j) ≡ true → (n == j) ≡ false) →
          find (has_number j) others ≡ (if n == j then None else find (has_number j) xs) →
          find (has_number j) (cond (not at_n) (a ∷ others) others)
          ≡ (if n == j then None else cond (a.number == j) (Some a) (find (has_number j) xs))
      go true same both before = before ∙ skip (n == j) (a.number == j) (same refl)
      go false same both before = keep (a.number == j) (n == j) (both refl) before

  -- a number that is kept
  pub find_map_kept : (f : Arrival C → Arrival C) → ((a : Arrival C) → (f a).number ≡ a.number) →
      (j : ℕ) (xs : List (Arrival C)) → find (has_number j) (map f xs) ≡ option_map f (find (has_number j) xs)
  find_map_kept f same j [] = refl
  find_map_kept f same j (a ∷ xs) =
      ap (λ k. cond (k == j) (Some (f a)) (find (has_number j) (map f xs))) (same a)
      ∙ go (a.number == j) (find_map_kept f same j xs)
    where
      go : (b : Bool) → find (has_number j) (map f xs) ≡ option_map f (find (has_number j) xs) →
          cond b (Some (f a)) (find (has_number j) (map f xs))
          ≡ option_map f (cond b (Some a) (find (has_number j) xs))
      go true before = refl
      go false before = before

  -- a claim keeps numbers
  pub keeps : (n : ℕ) (p : C) (a : Arrival C) → (with_claim n p a).number ≡ a.number
  keeps n p a = go (has_number n a)
    where
      go : (b : Bool) → (if◌then◌else◌ b (record a { claim = Some p }) a).number ≡ a.number
      go true = refl
      go false = refl

-- BY LOOKING BACK

module _ {C : Type 0} where
  -- a stream once it left, or said whose it is
  abbrev pub stream_after : Bool → Option C → Option (Arrival C) → Option (Arrival C)
  stream_after leaves claim None = None
  stream_after true claim (Some a) = None
  stream_after false None (Some a) = Some a
  stream_after false (Some p) (Some a) = Some (record a { claim = Some p })

  pub unchanged_stream : (o : Option (Arrival C)) → stream_after false None o ≡ o
  unchanged_stream None = refl
  unchanged_stream (Some a) = refl

  gone : (b : Bool) (o : Option (Arrival C)) → (if b then None else o) ≡ stream_after b None o
  gone true None = refl
  gone true (Some a) = refl
  gone false o = sym (unchanged_stream o)

  -- what is found of streams one of which claimed
  one : (n : ℕ) (p : C) (j : ℕ) (a : Arrival C) (at_n at_j : Bool) (e : Bool) → at_j ≡ true →
      (at_j ≡ true → at_n ≡ e) →
      Some (if◌then◌else◌ at_n (record a { claim = Some p }) a) ≡ stream_after false (if e then Some p else None) (Some a)
  one n p j a at_n at_j true is same = ap (λ b. Some (if◌then◌else◌ b (record a { claim = Some p }) a)) (same is)
  one n p j a at_n at_j false is same = ap (λ b. Some (if◌then◌else◌ b (record a { claim = Some p }) a)) (same is)

  claimed_found : (n : ℕ) (p : C) (j : ℕ) (xs : List (Arrival C)) →
      option_map (with_claim n p) (find (has_number j) xs)
      ≡ stream_after false (if n == j then Some p else None) (find (has_number j) xs)
  claimed_found n p j [] = refl
  claimed_found n p j (a ∷ xs) = go (a.number == j) refl (claimed_found n p j xs)
    where
      same : (a.number == j) ≡ true → (a.number == n) ≡ (n == j)
      same is = grind (arith, nat_tests)

      go : (b : Bool) → (a.number == j) ≡ b →
          option_map (with_claim n p) (find (has_number j) xs)
          ≡ stream_after false (if n == j then Some p else None) (find (has_number j) xs) →
          option_map (with_claim n p) (cond b (Some a) (find (has_number j) xs))
          ≡ stream_after false (if n == j then Some p else None) (cond b (Some a) (find (has_number j) xs))
      go true is before = one n p j a (a.number == n) (a.number == j) (n == j) is same
      go false is before = before

module _ {C S : Type 0} where
  -- where nothing came
  later : (j : ℕ) (e : Happening C S) (found : Option ((Origin × Duration) × List (Happening C S))) →
      stream_since j (found_with None e found)
      ≡ stream_after (leaves_by j e) (claim_by j e) (stream_since j found)
  later j e None = refl
  later j e (Some found) = go (leaves_by j e) (list_any (leaves_by j) found.1) (claim_by j e) (last_with (claim_by j) found.1)
    where
      at : Option C → Option (Arrival C)
      at claim = Some (record { number = j; origin = found.0.0; came = found.0.1; claim = claim })

      first : Option C → Option C → Option C
      first None before = before
      first (Some p) before = Some p

      go : (leaves left : Bool) (claim : Option C) (claimed : Option (C × List (Happening C S))) →
          (if leaves || left then None else at (option_map (λ f. f.0) (found_with claim e claimed)))
          ≡ stream_after leaves claim (if left then None else at (option_map (λ f. f.0) claimed))
      go true true claim claimed = refl
      go true false claim claimed = refl
      go false true None claimed = refl
      go false true (Some p) claimed = refl
      go false false None None = refl
      go false false None (Some f) = refl
      go false false (Some p) None = refl
      go false false (Some p) (Some f) = refl

  -- one more happening by which no stream of the number came
  pub stream_later : (j : ℕ) (e : Happening C S) (h : List (Happening C S)) → came_by j e ≡ None →
      stream_at j (e ∷ h) ≡ stream_after (leaves_by j e) (claim_by j e) (stream_at j h)
  stream_later j e h none = ap (λ o. stream_since j (found_with o e (last_with (came_by j) h))) none
      ∙ later j e (last_with (came_by j) h)

  -- HOW THEY STAND after one more happening

  -- the number of the next stream
  pub next_stays : (e : Happening C S) (h : List (Happening C S)) → is_new e ≡ false →
      next_at (e ∷ h) ≡ next_at h
  next_stays e h new = let more = sum_by-cons (λ e. cond (is_new e) 1 0) e h
      ∙ ap (λ b. cond b 1 0 + count_by is_new h) new in grind (arith)

  pub next_rises : (e : Happening C S) (h : List (Happening C S)) → is_new e ≡ true →
      next_at (e ∷ h) ≡ next_at h + 1
  next_rises e h new = let more = sum_by-cons (λ e. cond (is_new e) 1 0) e h
      ∙ ap (λ b. cond b 1 0 + count_by is_new h) new in grind (arith)

  -- one that has nothing to do with streams
  pub streams_stay : (e : Happening C S) (h : List (Happening C S)) (xs : List (Arrival C)) →
      is_new e ≡ false → ((j : ℕ) → came_by j e ≡ None) → ((j : ℕ) → leaves_by j e ≡ false) →
      ((j : ℕ) → claim_by j e ≡ None) → AreStreams h xs → AreStreams (e ∷ h) xs
  streams_stay e h xs new came leaves claim at = record {
    rise = subst (λ k. Rise 0 xs k) (sym (next_stays e h new)) at.rise;
    each = λ j. at.each j ∙ sym (stream_later j e h (came j)
        ∙ ap (λ b. stream_after b (claim_by j e) (stream_at j h)) (leaves j)
        ∙ ap (λ o. stream_after false o (stream_at j h)) (claim j) ∙ unchanged_stream (stream_at j h));
  }

  -- a dial that takes the next number
  pub streams_pass : (e : Happening C S) (h : List (Happening C S)) (xs : List (Arrival C)) →
      is_new e ≡ true → ((j : ℕ) → came_by j e ≡ None) → ((j : ℕ) → leaves_by j e ≡ false) →
      ((j : ℕ) → claim_by j e ≡ None) → AreStreams h xs → AreStreams (e ∷ h) xs
  streams_pass e h xs new came leaves claim at = record {
    rise = subst (λ k. Rise 0 xs k) (sym (next_rises e h new)) (rise_to 0 (next_at h) (next_at h + 1) xs (omega arith) at.rise);
    each = λ j. at.each j ∙ sym (stream_later j e h (came j)
        ∙ ap (λ b. stream_after b (claim_by j e) (stream_at j h)) (leaves j)
        ∙ ap (λ o. stream_after false o (stream_at j h)) (claim j) ∙ unchanged_stream (stream_at j h));
  }

  -- one by which stream n leaves
  pub streams_leave : (n : ℕ) (e : Happening C S) (h : List (Happening C S)) (xs : List (Arrival C)) →
      is_new e ≡ false → ((j : ℕ) → came_by j e ≡ None) → ((j : ℕ) → leaves_by j e ≡ (n == j)) →
      ((j : ℕ) → claim_by j e ≡ None) → AreStreams h xs →
      AreStreams (e ∷ h) (filter (λ a. not (has_number n a)) xs)
  streams_leave n e h xs new came leaves claim at = record {
    rise = subst (λ k. Rise 0 (filter (λ a. not (has_number n a)) xs) k) (sym (next_stays e h new))
        (rise_filter (λ a. not (has_number n a)) 0 (next_at h) xs at.rise);
    each = λ j. find_others n j xs ∙ ap (λ o. if n == j then None else o) (at.each j)
        ∙ gone (n == j) (stream_at j h)
        ∙ sym (stream_later j e h (came j)
        ∙ ap (λ b. stream_after b (claim_by j e) (stream_at j h)) (leaves j)
        ∙ ap (λ o. stream_after (n == j) o (stream_at j h)) (claim j));
  }

  -- one by which stream n says whose it is
  pub streams_claim : (n : ℕ) (p : C) (e : Happening C S) (h : List (Happening C S))
      (xs : List (Arrival C)) → is_new e ≡ false → ((j : ℕ) → came_by j e ≡ None) →
      ((j : ℕ) → leaves_by j e ≡ false) →
      ((j : ℕ) → claim_by j e ≡ (if n == j then Some p else None)) → AreStreams h xs →
      AreStreams (e ∷ h) (claimed n p xs)
  streams_claim n p e h xs new came leaves claim at = record {
    rise = subst (λ k. Rise 0 (claimed n p xs) k) (sym (next_stays e h new))
        (rise_map (with_claim n p) (keeps n p) 0 (next_at h) xs at.rise);
    each = λ j. find_map_kept (with_claim n p) (keeps n p) j xs
        ∙ claimed_found n p j xs
        ∙ ap (λ o. stream_after false (if n == j then Some p else None) o) (at.each j)
        ∙ sym (stream_later j e h (came j)
        ∙ ap (λ b. stream_after b (claim_by j e) (stream_at j h)) (leaves j)
        ∙ ap (λ o. stream_after false o (stream_at j h)) (claim j));
  }

  -- one by which a stream came with the next number
  pub streams_come : (origin : Origin) (t : Duration) (space : Room) (h : List (Happening C S))
      (xs : List (Arrival C)) → ¬ (space ≡ room.None) → AreStreams h xs →
      AreStreams (Happening.Arrived (next_at h) origin t space ∷ h)
      (arrived (arrival_of (next_at h) origin t) space xs)
  streams_come origin t space h xs some at = go space some
    where
      new : Arrival C
      new = arrival_of (next_at h) origin t

      -- what is found once one was appended
      appended : (ys : List (Arrival C)) (j : ℕ) → find (has_number (next_at h)) ys ≡ None →
          find (has_number j) (ys ++ new ∷ []) ≡ (if next_at h == j then Some new else find (has_number j) ys)
      appended ys j none = find-append (has_number j) ys (new ∷ []) ∙ go (next_at h == j) refl
        where
          go : (b : Bool) → (next_at h == j) ≡ b →
              option_or (find (has_number j) ys) (cond b (Some new) None)
              ≡ (if b then Some new else find (has_number j) ys)
          go true is = ap (λ o. option_or o (Some new)) (ap (λ k. find (has_number k) ys) (sym (is_same is)) ∙ none)
            where
              is_same : (next_at h == j) ≡ true → next_at h ≡ j
              is_same is = grind (arith, nat_tests)
          go false is = or_none (find (has_number j) ys)
            where
              or_none : (o : Option (Arrival C)) → option_or o None ≡ o
              or_none None = refl
              or_none (Some a) = refl

      -- by looking back
      came : (space : Room) (j : ℕ) → stream_at j (Happening.Arrived (next_at h) origin t space ∷ h)
          ≡ (if next_at h == j then Some new else stream_after (gave_way j space) None (stream_at j h))
      came space j = go (next_at h == j) refl
        where
          go : (b : Bool) → (next_at h == j) ≡ b →
              stream_since j (found_with (if b then Some (origin, t) else None)
              (Happening.Arrived (next_at h) origin t space) (last_with (came_by j) h))
              ≡ (if b then Some new else stream_after (gave_way j space) None (stream_at j h))
          go true is = ap (λ k. Some (arrival_of k origin t)) (sym (is_same is))
            where
              is_same : (next_at h == j) ≡ true → next_at h ≡ j
              is_same is = grind (arith, nat_tests)
          go false is = later j (Happening.Arrived (next_at h) origin t space) (last_with (came_by j) h)

      go : (space : Room) → ¬ (space ≡ room.None) →
          AreStreams (Happening.Arrived (next_at h) origin t space ∷ h)
          (arrived (arrival_of (next_at h) origin t) space xs)
      go room.None some = absurd (some refl)
      go room.Free some = record {
        rise = subst (λ k. Rise 0 (xs ++ new ∷ []) k) (sym (next_rises (Happening.Arrived (next_at h) origin t room.Free) h refl))
            (rise_append 0 (next_at h) new xs refl at.rise);
        each = λ j. appended xs j (not_yet 0 (next_at h) xs at.rise)
            ∙ ap (λ o. if next_at h == j then Some new else o) (at.each j ∙ sym (unchanged_stream (stream_at j h)))
            ∙ sym (came room.Free j);
      }
      go (room.Of m) some = record {
        rise = subst (λ k. Rise 0 (others m ++ new ∷ []) k) (sym (next_rises (Happening.Arrived (next_at h) origin t (room.Of m)) h refl))
            (rise_append 0 (next_at h) new (others m) refl (rise_filter (λ a. not (has_number m a)) 0 (next_at h) xs at.rise));
        each = λ j. appended (others m) j (not_yet 0 (next_at h) (others m) (rise_filter (λ a. not (has_number m a)) 0 (next_at h) xs at.rise))
            ∙ ap (λ o. if next_at h == j then Some new else o)
            (find_others m j xs ∙ ap (λ o. if m == j then None else o) (at.each j) ∙ gone (m == j) (stream_at j h))
            ∙ sym (came (room.Of m) j);
      }
        where
          others : ℕ → List (Arrival C)
          others m = filter (λ a. not (has_number m a)) xs
