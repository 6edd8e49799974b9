-- Worked runs: replies that the laws of few grants, of connections that are entitled no more and
-- of repair allow, and
-- replies that they refuse.
use Rattle.std.proofs.Common.{◌≡◌, ℕ, true, false, Bool, not, ◌&&◌, ◌||◌, List, [], ◌∷◌, Some, None}
use Rattle.std.proofs.Common.{inr, refl, sym, subst, arith}
use Rattle.std.specs.Prelude.{if◌then◌else◌}
use Rattle.std.specs.List.Sorted.{IsStrictlySortedBy}
use Rattle.std.specs.BTreeMap.{is_at}
use Rattle.std.specs.Duration.{max_nanos}
use Rattle.std.specs.Ordering.{nat_cmp}
use Rattle.std.specs.declared.cmp.Ordering.TheVariants.{Equal}
use Rattle.std.proofs.lemmas.Bool.{and_from, not_from_false}
use Rattle.std.proofs.lemmas.Cmp.{ranked}
use Rattle.p2p_discovery.specs.declared.discovery.BitVec.{BitVec}
use Rattle.p2p_discovery.specs.Ingress.{is_valid}
use Rattle.p2p_tracker.specs.Status.{is_inert}
use Rattle.p2p_tracker.specs.Calls.{Call, Grant, SetAt}
use Rattle.p2p_tracker.specs.Calls.Call.{Listen, Release, Ask}
use Rattle.p2p_tracker.specs.Calls.Question.{BitsAt}
use Rattle.p2p_tracker.specs.Calls.Direction.{Listener}
use Rattle.p2p_tracker.specs.Calls.Event.{Granted}
use Rattle.p2p_tracker.specs.History.{life, found_with, status_since, is_entitled}
use Rattle.p2p_tracker.specs.Answers.{is_torn_down}
use Rattle.p2p_directory.specs.declared.run.commands.Reply.{Reply}
use Rattle.p2p_directory.specs.declared.run.commands.Reply.TheVariants as reply
use Rattle.p2p_directory.specs.Run.{AreAnswers, world_after}
use Rattle.p2p_directory.specs.Laws.GrantCounts.{KeepGrantsFew}
use Rattle.p2p_directory.specs.Laws.Lingering.{is_lingering, KeepListed}
use Rattle.p2p_directory.specs.Laws.Repair.{IsDue, failures_after, KeepRepair}
use Rattle.p2p_directory.proofs.Definitions.Keys.{exact_from}
use Rattle.p2p_directory.proofs.Definitions.Setting.{sec, setup, track, listen, dial, update}

-- FEW GRANTS: a cooldown of 10 s leaves three within 20 s, both ends included

abbrev spread : ℕ → ℕ → List (Call ℕ ℕ)
spread t u = track 0 (1 ∷ []) ∷ listen 1 100 ∷ Release 1 ∷ listen 1 t ∷ Release 1 ∷ listen 1 u ∷ []

abbrev spread_replies : List (Reply ℕ ℕ)
spread_replies = reply.Track (Some []) ∷ reply.Listen true ∷ reply.Release ∷ reply.Listen true
    ∷ reply.Release ∷ reply.Listen true ∷ []

three_are_answers : AreAnswers setup [] (spread 110 120) spread_replies
unfolding life IsStrictlySortedBy
three_are_answers = (
  inr (refl, record { sorted = tt; members = λ p. refl }),
  (inr refl, (inr refl, (inr refl, (inr refl, (inr refl, tt))))),
)

-- three from 100 s to 119 s are too many
three_are_too_many : KeepGrantsFew setup 1 (spread 105 119) spread_replies → ⊥
three_are_too_many kept =
    let few = kept (sec 100) (sec 19) (omega arith) in
    absurd (omega (
      arith,
      ((((((few (omega arith)).1 (omega arith)).1 (omega arith)).1 (omega arith)).1
          (omega arith)).1 (omega arith)).0,
    ))

-- .. but at the greatest moment the cooldown is capped away
two_at_the_end : AreAnswers setup []
    (track 0 (1 ∷ []) ∷ Listen 1 max_nanos 0 ∷ Release 1 ∷ Listen 1 max_nanos 0 ∷ [])
    (reply.Track (Some []) ∷ reply.Listen true ∷ reply.Release ∷ reply.Listen true ∷ [])
unfolding life IsStrictlySortedBy
two_at_the_end = (
  inr (refl, record { sorted = tt; members = λ p. refl }),
  (inr refl, (inr refl, (inr refl, tt))),
)

-- LINGERING: a set goes that alone names 1, which is reserved

abbrev replaced : List (Call ℕ ℕ)
replaced = track 0 (1 ∷ []) ∷ listen 1 100 ∷ track 1 (2 ∷ []) ∷ []

abbrev replaced_replies : List ℕ → List (Reply ℕ ℕ)
replaced_replies torn = reply.Track (Some []) ∷ reply.Listen true ∷ reply.Track (Some torn) ∷ []

lingers : is_lingering setup
    (world_after setup (track 1 (2 ∷ []) ∷ listen 1 100 ∷ track 0 (1 ∷ []) ∷ [])) 1 ≡ true
unfolding life
lingers = refl

-- only 1 is torn down
abbrev one : Grant
one = record { t = sec 100; draw = 0; direction = Listener }

only_one : (p : ℕ) (is before after : Bool) → (is ≡ true → (before ≡ true) × (after ≡ false)) →
    (is || false) ≡ (not
    (is_inert (status_since setup p
    (found_with (if is then Some one else None) (Granted 1 one) None))) && before && not
    after)
only_one p true before after e =
    sym (and_from before (not after) (e refl).0 (not_from_false after (e refl).1))
only_one p false before after e = refl

abbrev named : ℕ → ℕ → List (SetAt ℕ)
named index q = record { index = index; primary = q ∷ []; secondary = [] } ∷ []

replaced_is_answer : AreAnswers setup [] replaced (replaced_replies (1 ∷ []))
unfolding life IsStrictlySortedBy
replaced_is_answer = (
  inr (refl, record { sorted = tt; members = λ p. refl }),
  (inr refl, (inr (refl, record { sorted = (tt, tt); members = torn }), tt)),
)
  where
    torn : (p : ℕ) →
        (is_at (nat_cmp 1) p || false) ≡
        is_torn_down setup (world_after setup (listen 1 100 ∷ track 0 (1 ∷ []) ∷ []))
        (world_after setup (track 1 (2 ∷ []) ∷ listen 1 100 ∷ track 0 (1 ∷ []) ∷ [])) p
    torn p = only_one p (is_at (nat_cmp 1) p) (is_entitled setup p (named 0 1))
        (is_entitled setup p (named 1 2))
        (λ same. subst (λ q. (is_entitled setup q (named 0 1) ≡ true)
        × (is_entitled setup q (named 1 2) ≡ false))
        (exact_from setup nat_cmp refl (λ q p e. ranked q p Equal (sym e)) 1 p same) (refl, refl))

unlisted_is_refused : KeepListed setup 1 false [] replaced (replaced_replies []) → ⊥
unfolding life
unlisted_is_refused kept = absurd (let listed = kept.1.1.1 refl in cc)

listed_is_kept : KeepListed setup 1 false [] replaced (replaced_replies (1 ∷ []))
unfolding life
listed_is_kept = ((λ e. absurd cc), ((λ e. absurd cc), ((λ e. absurd cc), (λ e. refl))))

-- what was listed before the last grant doesn't count
listed_before_is_refused : KeepListed setup 1 false []
    (track 0 (1 ∷ []) ∷ listen 1 100 ∷ track 1 (2 ∷ []) ∷ Release 1 ∷ track 2 (1 ∷ [])
    ∷ listen 1 200 ∷ track 3 (2 ∷ []) ∷ [])
    (reply.Track (Some []) ∷ reply.Listen true ∷ reply.Track (Some (1 ∷ [])) ∷ reply.Release
    ∷ reply.Track (Some []) ∷ reply.Listen true ∷ reply.Track (Some []) ∷ []) → ⊥
unfolding life
listed_before_is_refused kept = absurd (let listed = kept.1.1.1.1.1.1.1 refl in cc)

-- REPAIR: one failed dial at the address of 1's info is enough

abbrev before_release : List (Call ℕ ℕ)
before_release = dial 1 100 ∷ update 1 1000 ∷ track 0 (1 ∷ []) ∷ []

abbrev failed : List (Call ℕ ℕ)
failed = track 0 (1 ∷ []) ∷ update 1 1000 ∷ dial 1 100 ∷ Release 1 ∷ Ask (BitsAt 0) ∷ []

abbrev bits : Bool → BitVec
bits b = record { index = 0; bits = b ∷ [] }

abbrev failed_replies : Bool → List (Reply ℕ ℕ)
failed_replies b =
    reply.Track (Some []) ∷ reply.UpdatePeers ∷ reply.Dial true ∷ reply.Release
    ∷ reply.GetRandomBitVec (Some (bits b)) ∷ []

asked_anew : AreAnswers setup [] failed (failed_replies false)
unfolding life IsStrictlySortedBy is_valid
asked_anew = (
  inr (refl, record { sorted = tt; members = λ p. refl }),
  (inr refl, (inr refl, (inr refl, (inr refl, tt)))),
)

due : IsDue setup 1 (failures_after setup 1 before_release (Release 1) reply.Release 0)
    (world_after setup (Release 1 ∷ before_release))
unfolding life is_valid
due = record { other = refl; failed = omega arith; idle = refl }

not_asked_is_refused : KeepRepair setup 1 0 [] failed (failed_replies true) → ⊥
unfolding life is_valid
not_asked_is_refused kept =
    let told = (kept.1.1.1.1.0 due).1 0 (record { index = 0; primary = 1 ∷ []; secondary = [] })
    (bits true) refl refl refl in
    absurd (let zero = told.0 refl in cc)

-- .. also of a peer that went with its info, and comes back without one
gone_and_back_is_refused : KeepRepair setup 1 0 []
    (track 0 (1 ∷ []) ∷ update 1 1000 ∷ dial 1 100 ∷ Release 1 ∷ track 1 (2 ∷ []) ∷ track 2 (1 ∷ [])
    ∷ Ask (BitsAt 0) ∷ [])
    (reply.Track (Some []) ∷ reply.UpdatePeers ∷ reply.Dial true ∷ reply.Release
    ∷ reply.Track (Some []) ∷ reply.Track (Some [])
    ∷ reply.GetRandomBitVec (Some (record { index = 2; bits = true ∷ [] })) ∷ []) → ⊥
unfolding life is_valid
gone_and_back_is_refused kept =
    let told = (kept.1.1.1.1.1.1.0 (record { other = refl; failed = omega arith; idle = refl })).1 0
    (record { index = 2; primary = 1 ∷ []; secondary = [] }) (record { index = 2; bits = true ∷ [] })
    refl refl refl in
    absurd (let zero = told.0 refl in cc)

-- a newer info starts the count anew, an older one doesn't
counted_after : (failures_after setup 1 (Release 1 ∷ before_release) (update 1 1001)
    reply.UpdatePeers 1 ≡ 0)
    × (failures_after setup 1 (Release 1 ∷ before_release) (update 1 999) reply.UpdatePeers 1 ≡ 1)
unfolding life is_valid
counted_after = (refl, refl)
