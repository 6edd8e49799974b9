-- Worked runs: replies that isolation, order and bounds allow, and replies that they refuse.
use Rattle.std.proofs.Common.{◌≡◌, ℕ, true, false, Bool, List, [], ◌∷◌, ◌||◌, Some, inl, inr, refl, sym, ◌∙◌, ap, arith}
use Rattle.std.specs.List.Sorted.{IsStrictlySortedBy}
use Rattle.std.specs.Prelude.{◌⊎◌}
use Rattle.p2p_discovery.specs.declared.discovery.Info.{Info}
use Rattle.p2p_tracker.specs.Calls.{Call}
use Rattle.p2p_tracker.specs.Calls.Call.{Block, Connect, Update, Ask}
use Rattle.p2p_tracker.specs.Calls.Question.{NumberTracked, InfoOf}
use Rattle.p2p_tracker.specs.History.{is_in, life}
use Rattle.p2p_directory.specs.declared.run.commands.Reply.{Reply}
use Rattle.p2p_directory.specs.declared.run.commands.Reply.TheVariants as reply
use Rattle.p2p_directory.specs.Laws.Bounds.{NamesAtMost}
use Rattle.p2p_directory.specs.Laws.BoundRuns.{KeepBound}
use Rattle.p2p_directory.specs.Laws.Isolation.{KeepAlone}
use Rattle.p2p_directory.specs.Laws.Order.{Member, HaveSame, IsUnambiguous}
use Rattle.p2p_directory.specs.Laws.OrderRuns.{KeepOrder}
use Rattle.p2p_directory.proofs.Definitions.Setting.{sec, setup, info_at, track, listen}

-- ISOLATION: a block of 2 is nothing to 1, and a block of 1 is

abbrev blocked : ℕ → List (Call ℕ ℕ)
blocked p = track 0 (1 ∷ 2 ∷ []) ∷ Block p (sec 100) ∷ listen 1 100 ∷ []

abbrev blocked_replies : Bool → List (Reply ℕ ℕ)
blocked_replies granted = reply.Track (Some []) ∷ reply.Block true ∷ reply.Listen granted ∷ []

refused_for_another : KeepAlone setup 1 [] (blocked 2) (blocked_replies false) → ⊥
unfolding life
refused_for_another kept = elim (kept.1.1.0.answer refl) [
  | inl refused ↦ absurd (let e = refused.0 in cc)
  | inr e ↦ absurd (cc)
]

refused_for_itself : KeepAlone setup 1 [] (blocked 1) (blocked_replies true) → ⊥
unfolding life
refused_for_itself kept = elim (kept.1.1.0.answer refl) [
  | inl refused ↦ absurd (let e = refused.0 in cc)
  | inr e ↦ absurd (cc)
]

-- BOUNDS: two peers in the one set that is retained, and the own

abbrev counted : List (Call ℕ ℕ)
counted = track 0 (1 ∷ 2 ∷ []) ∷ Ask NumberTracked ∷ []

or_nothing : (b : Bool) → b ≡ (b || false)
or_nothing true = refl
or_nothing false = refl

two_named : NamesAtMost setup 2 (record { index = 0; primary = 1 ∷ 2 ∷ []; secondary = [] })
unfolding IsStrictlySortedBy
two_named = record {
  peers = 1 ∷ 2 ∷ [];
  all = record { sorted = ((refl, tt), (tt, tt)); members = λ p. or_nothing (is_in setup p (1 ∷ 2 ∷ [])) };
  few = omega arith;
}

four_are_too_many : KeepBound setup 2 [] counted (reply.Track (Some []) ∷ reply.Tracked 4 ∷ []) → ⊥
unfolding life IsStrictlySortedBy
four_are_too_many kept =
    let few = (kept.1.0 (two_named, tt)).1 4 refl (9 ∷ []) [] (record { sorted = (tt, tt); members = λ p. refl })
    (record { sorted = tt; members = λ p. refl }) in
    absurd (omega (arith, few))

-- ORDER: an older info after a newer one changes nothing

abbrev older : Info ℕ ℕ
older = info_at 1 1000 8001

abbrev newer : Info ℕ ℕ
newer = info_at 1 1001 8002

abbrev informed : List (Call ℕ ℕ)
informed = track 0 (1 ∷ []) ∷ listen 1 100 ∷ Connect 1 true ∷ Update (older ∷ newer ∷ []) ∷ Ask (InfoOf 1) ∷ []

abbrev informed_replies : Info ℕ ℕ → List (Reply ℕ ℕ)
informed_replies i = reply.Track (Some []) ∷ reply.Listen true ∷ reply.Connect ∷ reply.UpdatePeers ∷ reply.Info (Some i) ∷ []

swapped : HaveSame (older ∷ newer ∷ []) (newer ∷ older ∷ [])
swapped x = (
  elim [ inl e ↦ inr (inl e) | inr m ↦ elim m [ inl e ↦ inl e | inr n ↦ absurd n ] ],
  elim [ inl e ↦ inr (inl e) | inr m ↦ elim m [ inl e ↦ inl e | inr n ↦ absurd n ] ],
)

one_of_two : (i : Info ℕ ℕ) → Member (older ∷ newer ∷ []) i → (i ≡ older) ⊎ (i ≡ newer)
one_of_two i (inl e) = inl e
one_of_two i (inr (inl e)) = inr e
one_of_two i (inr (inr n)) = absurd n

unambiguous : IsUnambiguous setup (older ∷ newer ∷ [])
unambiguous p i j m n mine his same = go (one_of_two i m) (one_of_two j n)
  where
    go : (i ≡ older) ⊎ (i ≡ newer) → (j ≡ older) ⊎ (j ≡ newer) → i ≡ j
    go (inl a) (inl b) = a ∙ sym b
    go (inr a) (inr b) = a ∙ sym b
    go (inl a) (inr b) = absurd (omega (arith, same, ap (λ (k : Info ℕ ℕ). k.timestamp) a, ap (λ (k : Info ℕ ℕ). k.timestamp) b))
    go (inr a) (inl b) = absurd (omega (arith, same, ap (λ (k : Info ℕ ℕ). k.timestamp) a, ap (λ (k : Info ℕ ℕ). k.timestamp) b))

abbrev timestamp_told : Reply ℕ ℕ → ℕ
timestamp_told (reply.Info (Some i)) = i.timestamp
timestamp_told _ = 0

older_is_refused : KeepOrder setup [] informed (informed_replies older) → ⊥
unfolding life
older_is_refused kept =
    let same = kept.1.1.1.0.0 unambiguous (newer ∷ older ∷ []) [] swapped in
    elim same.1 [
      | inl refused ↦ absurd (let e = refused.0 in cc)
      | inr e ↦ absurd (omega (arith, ap timestamp_told e))
    ]
