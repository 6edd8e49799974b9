-- The premises of what answers decide are met, and other replies are then refused. Keys of no bytes
-- have to be left out.
use Rattle.std.proofs.Common.{◌≡◌, inl, inr, ℕ, zero, suc, ◌<◌, ◌^◌, ◌-◌, true, List, [], ◌∷◌, Some}
use Rattle.std.proofs.Common.{None, refl, arith}
use Rattle.std.specs.List.{AllByRecursion}
use Rattle.p2p_discovery.specs.Reading.{IsBytes}
use Rattle.p2p_tracker.specs.Calls.Call.{Ask, Track}
use Rattle.p2p_tracker.specs.Calls.Question.{LatestIndex}
use Rattle.p2p_tracker.specs.History.{life}
use Rattle.p2p_directory.specs.declared.node.received.Received.TheVariants as received
use Rattle.p2p_directory.specs.declared.run.commands.Reply.TheVariants as reply
use Rattle.p2p_directory.proofs.Definitions.ByteKeys.{is_fixed}
use Rattle.p2p_session.specs.Alike.{IsWhole, TellsOfCall, TellsOfFrame}
use Rattle.p2p_session.specs.Answers.{keys_bytes}
use Rattle.p2p_session.specs.Schemes.{Scheme}
use Rattle.p2p_session.proofs.Alike.{calls_are, returned_are}
use Rattle.p2p_session.proofs.ShownSteps.{k, m, v, sec, greeting, leads_on_by_frame}

-- ---- a number: no set was registered

whole_absent : IsWhole [] (2 ^ 64 - 3)
whole_absent = record {
  room = omega arith;
  fits = inr (omega arith);
  no_want = λ e. omega (arith, e);
}

absent : TellsOfCall k (Ask LatestIndex) (reply.LatestSetIndex None) [] [] (2 ^ 64 - 3)
unfolding life
absent = record {
  m = m;
  before = [];
  answer = inl (inr refl);
  values =
      tt;
  told = inr (refl, refl);
}

absent_is_no_index : (n : ℕ) →
    TellsOfCall k (Ask LatestIndex) (reply.LatestSetIndex (Some n)) [] [] (2 ^ 64 - 3) → ⊥
absent_is_no_index n told = absurd (
    let e = calls_are [] [] (2 ^ 64 - 3) whole_absent k is_fixed is_fixed (omega arith)
    (Ask LatestIndex)
    (reply.LatestSetIndex None) (reply.LatestSetIndex (Some n)) absent told in
    cc)

-- ---- bytes: the set with index 5 was

abbrev room : List ℕ
room = 7 ∷ 7 ∷ 7 ∷ 7 ∷ 7 ∷ 7 ∷ 7 ∷ 7 ∷ 9 ∷ []

abbrev five : List ℕ
five = 0 ∷ 0 ∷ 0 ∷ 0 ∷ 0 ∷ 0 ∷ 0 ∷ 5 ∷ 9 ∷ []

whole_index : IsWhole room 8
whole_index = record {
  room = omega arith;
  fits = inl (omega arith);
  no_want = λ e. omega (arith, e);
}

index : TellsOfCall k (Ask LatestIndex) (reply.LatestSetIndex (Some 5)) room five 8
unfolding life
index = record {
  m = m;
  before = Track 5 [] [] ∷ [];
  answer = inl (inr refl);
  values = omega arith;
  told = inr (record { count = refl; room = refl });
}

five_is_no_other : TellsOfCall k (Ask LatestIndex) (reply.LatestSetIndex (Some 6)) room five 8 → ⊥
five_is_no_other told = absurd (
    let e = calls_are room five 8 whole_index k is_fixed is_fixed (omega arith) (Ask LatestIndex)
    (reply.LatestSetIndex (Some 5)) (reply.LatestSetIndex (Some 6)) index told in
    cc)

-- ---- a frame: the greeting of peer 1

whole_greeted : IsWhole (7 ∷ 7 ∷ []) 2
whole_greeted = record {
  room = omega arith;
  fits = inl (omega arith);
  no_want = λ e. omega (arith, e);
}

greeted : TellsOfFrame k greeting (received.Greeted 1) (7 ∷ 7 ∷ []) (1 ∷ 1 ∷ []) 2
greeted = record {
  verdicts = true ∷ [];
  now = sec 100;
  v = v;
  v2 = v;
  heard = leads_on_by_frame;
  values = omega arith;
  told = record { count = refl; room = refl };
}

all_bytes : (bytes : List ℕ) → AllByRecursion (λ b. b < 256) bytes → IsBytes bytes
all_bytes [] h i = omega arith
all_bytes (b ∷ bytes) h zero = h.0
all_bytes (b ∷ bytes) h (suc i) = all_bytes bytes h.1 i

are_bytes : IsBytes greeting
are_bytes = all_bytes greeting (
  omega arith,
  (
    omega arith,
    (
      omega arith,
      (
        omega arith,
        (
          omega arith,
          (
            omega arith,
            (
              omega arith,
              (
                omega arith,
                (
                  omega arith,
                  (omega arith, (omega arith, (omega arith, (omega arith, (omega arith, tt))))),
                ),
              ),
            ),
          ),
        ),
      ),
    ),
  ),
)

greeted_by_no_other :
    TellsOfFrame k greeting (received.Greeted 2) (7 ∷ 7 ∷ []) (1 ∷ 1 ∷ []) 2 → ⊥
greeted_by_no_other told = absurd (
    let e = returned_are (7 ∷ 7 ∷ []) (1 ∷ 1 ∷ []) 2 whole_greeted k is_fixed is_fixed greeting
    are_bytes
    (received.Greeted 1) (received.Greeted 2) greeted told in
    cc)

-- ---- keys of no bytes: nobody and somebody are told alike

abbrev of_no_bytes : Scheme ℕ ℕ
of_no_bytes = record k { key = record (k.key) { SIZE = 0; spelled = λ p. [] } }

told_alike : keys_bytes of_no_bytes [] ≡ keys_bytes of_no_bytes (1 ∷ [])
told_alike = refl
