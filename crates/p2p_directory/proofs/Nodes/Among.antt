-- One of some nodes was given a command, by what its calls say, and all others stayed.
use Rattle.std.proofs.Common.{◌≡◌, ◌<◌, ◌≤◌, ℕ, length, Bool, false, List, Option, Some, None, Result, Ok}
use Rattle.std.proofs.Common.{[], ◌∷◌, ◌++◌, Err, inl, inr, refl, sym, ◌∙◌, ap, subst, arith}
use Rattle.std.specs.Prelude.{◌==◌, ◌&&◌, not, ◌⊎◌, is_some, nat_lt, slice_index_or, slice_set}
use Rattle.std.specs.Duration.{as_nanos}
use Rattle.std.specs.declared.cmp.Ordering.{Ordering}
use Rattle.std.specs.declared.time.Duration.{Duration}
use Rattle.std.proofs.lemmas.Bool.{eq-eqb, lt-ltb, le-ltb}
use Rattle.std.proofs.lemmas.List.{get_or_default}
use Rattle.p2p_discovery.specs.declared.discovery.Info.{Info}
use Rattle.p2p_tracker.specs.Seen.{DirectoryView}
use Rattle.p2p_directory.specs.declared.node.received.Received.{Received}
use Rattle.p2p_directory.specs.declared.node.setup.Setup.{Setup}
use Rattle.p2p_directory.specs.declared.node.exchanged.Exchanged.{Exchanged}
use Rattle.p2p_directory.specs.declared.node.network.commands.NetworkCommand.{NetworkCommand}
use Rattle.p2p_directory.specs.declared.node.network.commands.NetworkCommand.TheVariants as command
use Rattle.p2p_directory.specs.declared.node.network.commands.NetworkReply.TheVariants as reply
use Rattle.p2p_directory.specs.declared.node.network.commands.NetworkReply.{NetworkReply}
use Rattle.p2p_directory.specs.declared.run.commands.Command.{Command}
use Rattle.p2p_directory.specs.declared.run.commands.Reply.{Reply}
use Rattle.p2p_directory.specs.Exchange.{IsExchanged}
use Rattle.p2p_directory.specs.Held.{ReleasesAll}
use Rattle.p2p_directory.specs.Network.{are_there, IsServedAmong, IsAdded, IsReplaced, ReplacesAt}
use Rattle.p2p_directory.specs.Nodes.{NodeView, NodeStandsAt, made_of, IsStepped, AnswersFrame, AsksWith}
use Rattle.p2p_directory.specs.Nodes.{IsReceived, IsLeft, IsSame}
use Rattle.p2p_directory.specs.Received.{Wire, verdicts_of}
use Rattle.p2p_directory.specs.Private.Networks.{reply_to_ask, ExchangesAmong}
use Rattle.p2p_directory.proofs.Nodes.Worlds.{received_in, asked_in, exchanged_in}

-- no two different numbers below a size
pub not_two : (size i j : ℕ) → (size ≤ i) ⊎ ((i < size × size ≤ j) ⊎ (i < size × j < size × i ≡ j)) →
    (nat_lt i size && (nat_lt j size && not (i == j))) ≡ false
not_two size i j (inl none) =
    ap (λ b. b && (nat_lt j size && not (i == j))) (le-ltb i size none)
not_two size i j (inr (inl none)) = ap (λ (x : Bool × Bool). x.0 && (x.1 && not (i == j)))
    (λ k. (lt-ltb i size none.0 k, le-ltb j size none.1 k))
not_two size i j (inr (inr same)) = ap (λ (x : Bool × Bool × Bool). x.0 && (x.1 && not x.2))
    (λ k. (lt-ltb i size same.0 k, lt-ltb j size same.1 k, eq-eqb i j same.2 k))

module _ {C S : Type 0} (cmp : C → C → Ordering) (wire : Wire C S) (es : List (NodeView C S)) where
  -- there is no such node
  pub not_there : (c : NetworkCommand C S) → are_there (length es) c ≡ false →
      IsServedAmong cmp wire c reply.NoNode es es
  not_there c none =
      (none, refl)

  -- node i was stepped: it is e2 then
  pub stepped_among : (i : ℕ) (x : Command C S) (r : Reply C S) (d e2 : NodeView C S) →
      i < length es → IsStepped cmp x r (slice_index_or es i d) e2 →
      IsServedAmong cmp wire (command.Call i x) (reply.Call r)
      es (slice_set es i e2)
  stepped_among i x r d e2 lt seen = record {
    there = lt;
    node = e2;
    others = refl;
    stepped = λ v. subst (λ (u : NodeView C S). IsStepped cmp x r u e2)
        (get_or_default es i d v lt) seen;
  }

  -- .. took a frame
  pub received_among : (i : ℕ) (frame : List ℕ) (now : Duration) (r : Received C S)
      (d e2 : NodeView C S) → i < length es →
      AnswersFrame cmp wire verdicts_of frame (as_nanos now) r (slice_index_or es i d) e2 →
      IsServedAmong cmp wire (command.Frame i frame now) (reply.Frame r)
      es (slice_set es i e2)
  received_among i frame now r d e2 lt seen = record {
    there = lt;
    node = e2;
    others = refl;
    received = λ v. subst
        (λ (u : NodeView C S). IsReceived cmp wire verdicts_of frame (as_nanos now) r u e2)
        (get_or_default es i d v lt) (λ given calls at. received_in (made_of cmp given) wire calls
        (slice_index_or es i d) at given.cfg.max_sets.ok verdicts_of frame (as_nanos now) r
        e2 seen);
  }

  -- node i was asked
  pub asked_among : {E : Type 0} (i place : ℕ) (r : Result (Option (List ℕ)) E)
      (e : NodeView C S) → i < length es → e ≡ slice_index_or es i e →
      AsksWith cmp wire place r e →
      IsServedAmong cmp wire (command.Ask i place) (reply_to_ask r) es es
  asked_among i place (Ok frame) e lt is seen = record {
    there = lt;
    same = refl;
    asked = λ v given calls at. let of_e = is ∙ get_or_default es i e v lt in
        let h = asked_in (made_of cmp given) wire calls _ at place (Ok frame)
        (subst (AsksWith cmp wire place (Ok frame)) of_e seen) in
        record { frame = h.frame; err = h.err };
  }
  asked_among i place (Err error) e lt is seen = record {
    there = lt;
    same = refl;
    asked = λ v given calls at. let of_e = is ∙ get_or_default es i e v lt in
        let h = asked_in (made_of cmp given) wire calls _ at place (Err error)
        (subst (AsksWith cmp wire place (Err error)) of_e seen) in
        record { frame = h.frame; err = h.err };
  }

  -- node i asked node j
  pub exchanged_among_nodes : (i j place : ℕ) (s t : Duration) (r : Exchanged C S)
      (es2 : List (NodeView C S)) → i < length es → j < length es → ¬ (i ≡ j) →
      ExchangesAmong cmp wire i j place (as_nanos s) (as_nanos t) r es es2 →
      IsServedAmong cmp wire (command.Exchange i j place s t) (reply.Exchange r)
      es es2
  exchanged_among_nodes i j place s t r es2 lt lt2 apart x = record {
    there = lt;
    other = lt2;
    apart = apart;
    node = x.left;
    others = x.rest;
    exchanged = λ v. subst (λ (u : NodeView C S × NodeView C S).
        IsExchanged cmp wire place (as_nanos s) (as_nanos t) r u.0 u.1 x.left)
        (λ k. (get_or_default es i x.left v lt k, get_or_default es j x.left v lt2 k))
        (λ given cs at given2 ds at2. exchanged_in (made_of cmp given) (made_of cmp given2) wire
        cs ds (slice_index_or es i x.left) (slice_index_or es j x.left) at at2
        given.cfg.max_sets.ok place (as_nanos s) (as_nanos t) r x.left
        (x.seen x.left).answer (x.seen x.left).left);
  }

-- .. the same lists otherwise found
pub among : {C S : Type 0} (cmp : C → C → Ordering) (wire : Wire C S) (c : NetworkCommand C S)
    (r : NetworkReply C S) {xs xs2 ys ys2 : List (NodeView C S)} → xs ≡ ys → ys2 ≡ xs2 →
    IsServedAmong cmp wire c r xs xs2 →
    IsServedAmong cmp wire c r ys ys2
among cmp wire c r before after seen = subst
    (λ (x : List (NodeView _ _) × List (NodeView _ _)).
    IsServedAmong cmp wire c r x.0 x.1) (λ i. (before i, sym after i)) seen

-- .. where no infos were applied
pub same_left : {C S : Type 0} (cmp : C → C → Ordering) (o : Option (List (Info C S))) (v v2 : NodeView C S) →
    is_some o ≡ false → IsLeft cmp v o v2 → v2 ≡ v
same_left cmp None v v2 none left = left
same_left cmp (Some infos) v v2 none left = absurd cc

-- .. for the same peers there are slots
pub left_slots : {C S : Type 0} (cmp : C → C → Ordering) (o : Option (List (Info C S))) (v v2 : NodeView C S) →
    IsLeft cmp v o v2 → v2.slots ≡ v.slots
left_slots cmp None v v2 left = ap (λ v. v.slots) left
left_slots cmp (Some infos) v v2 left = ap (λ v. v.slots) left.1

-- what is as it was is so but for slots
pub unchanged_same : {C S : Type 0} {v v2 : NodeView C S} → v2 ≡ v → IsSame v v2
unchanged_same {C} {S} {v} {v2} same = subst (λ x. IsSame v x) (sym same) refl

-- A NEW NODE of a setup

module _ {C S : Type 0} (cmp : C → C → Ordering) (given : Setup C S) (es es2 : List (NodeView C S))
    (e : NodeView C S) (stands : NodeStandsAt (made_of cmp given) [] e) where
  -- behind all others
  pub added : es2 ≡ es ++ e ∷ [] → IsAdded cmp given es es2
  added more = record {
    node = e;
    stands = stands;
    nodes = more;
  }

  -- in place of node i, which was old, and was released in d
  pub replaced_at : (i : ℕ) (old : NodeView C S) (d : DirectoryView C S) → i < length es →
      es2 ≡ slice_set es i e → old ≡ slice_index_or es i old →
      ReleasesAll cmp old.held old.directory d →
      IsReplaced cmp given i (Some d) es es2
  replaced_at i old d lt rest is releases = (
    record {
      there = lt;
      node = e;
      stands = stands;
      nodes = rest;
    },
    λ v. subst (λ (u : NodeView C S). ReleasesAll cmp u.held u.directory d)
        (is ∙ get_or_default es i old v lt) releases,
  )

-- .. where there is such a node
pub was_there : {C S : Type 0} (cmp : C → C → Ordering) (given : Setup C S) (i : ℕ)
    (left : Option (DirectoryView C S)) (vs vs2 : List (NodeView C S)) → i < length vs →
    IsReplaced cmp given i left vs vs2 → ReplacesAt cmp given i vs vs2
was_there cmp given i None vs vs2 lt h = absurd (omega (arith, h.0))
was_there cmp given i (Some directory) vs vs2 lt h = h.0
