-- Worked runs: replies that the laws of grants, blocks and dials allow, and replies that they refuse.
use Rattle.std.proofs.Common.{◌≡◌, ℕ, true, false, Bool, List, [], ◌∷◌, Some, None, inr, refl, sym, ◌∙◌, ap, subst, arith}
use Rattle.std.specs.List.Sorted.{IsStrictlySortedBy}
use Rattle.p2p_tracker.specs.Calls.{Call, Question}
use Rattle.p2p_tracker.specs.Calls.Call.{Listen, Block, UnblockExpired, ForgetCooled, Release, Ask}
use Rattle.p2p_tracker.specs.Calls.Question.{NumberTracked, DialableAt}
use Rattle.p2p_tracker.specs.History.{life}
use Rattle.p2p_tracker.specs.declared.record.dialing.Dialable.{Dialable}
use Rattle.p2p_directory.specs.declared.run.commands.Reply.{Reply}
use Rattle.p2p_directory.specs.declared.run.commands.Reply.TheVariants as reply
use Rattle.p2p_directory.specs.Run.{AreAnswers}
use Rattle.p2p_directory.specs.Laws.GrantRuns.{RunKeepsCooldownUnlessForgotten, RunKeepsCooldown, RunKeepsBlocks}
use Rattle.p2p_directory.specs.Laws.BlockRuns.{KeepLastBlock}
use Rattle.p2p_tracker.specs.Dials.{IsBefore}
use Rattle.p2p_directory.specs.Laws.DialRuns.{next_query, AreGrantedAt, IsRepeated, KeepDialable}
use Rattle.p2p_directory.proofs.Definitions.Setting.{sec, setup, track, listen, dial}

-- COOLDOWN, of 10 s

abbrev listened : ℕ → List (Call ℕ ℕ)
listened t = track 0 (1 ∷ []) ∷ listen 1 100 ∷ Release 1 ∷ listen 1 t ∷ []

abbrev listen_replies : Bool → List (Reply ℕ ℕ)
listen_replies granted = reply.Track (Some []) ∷ reply.Listen true ∷ reply.Release ∷ reply.Listen granted ∷ []

refused_is_answer : AreAnswers setup [] (listened 109) (listen_replies false)
unfolding life IsStrictlySortedBy
refused_is_answer = (
  inr (refl, record { sorted = tt; members = λ p. refl }),
  (inr refl, (inr refl, (inr refl, tt))),
)

-- .. over two lives

abbrev reborn : ℕ → List (Call ℕ ℕ)
reborn t = track 0 (1 ∷ []) ∷ listen 1 100 ∷ Release 1 ∷ track 1 [] ∷ track 2 (1 ∷ []) ∷ listen 1 t ∷ []

abbrev reborn_replies : List (Reply ℕ ℕ)
reborn_replies = reply.Track (Some []) ∷ reply.Listen true ∷ reply.Release ∷ reply.Track (Some []) ∷ reply.Track (Some []) ∷ reply.Listen true ∷ []

granted_too_soon : RunKeepsCooldownUnlessForgotten setup 1 None (reborn 109) reborn_replies → ⊥
granted_too_soon kept = absurd (omega (arith, kept.1.1.1.1.1.0))

granted_in_time : RunKeepsCooldownUnlessForgotten setup 1 None (reborn 110) reborn_replies
granted_in_time = (tt, (tt, (tt, (tt, (tt, (omega arith, tt))))))

granted_another : RunKeepsCooldownUnlessForgotten setup 2 None (reborn 109) reborn_replies
granted_another = (tt, (tt, (tt, (tt, (tt, (tt, tt))))))

-- a forgetting in between, at a moment

abbrev forgotten : ℕ → List (Call ℕ ℕ)
forgotten u = Listen 1 (sec 100) (sec 4) ∷ Release 1 ∷ ForgetCooled u ∷ listen 1 105 ∷ []

abbrev forgotten_replies : ℕ → List (Reply ℕ ℕ)
forgotten_replies count = reply.Listen true ∷ reply.Release ∷ reply.ForgetCooled count ∷ reply.Listen true ∷ []

-- at the dial moment: of the grant after it the first clause says nothing
granted_when_forgotten : RunKeepsCooldownUnlessForgotten setup 1 None (forgotten (sec 114)) (forgotten_replies 1)
granted_when_forgotten = (tt, (tt, (tt, (tt, tt))))

-- before the dial moment, though at the reservable one: nothing is forgotten
granted_unforgotten : RunKeepsCooldownUnlessForgotten setup 1 None (forgotten 113_999_999_999) (forgotten_replies 0) → ⊥
granted_unforgotten kept = absurd (omega (arith, kept.1.1.1.0))

-- where moments go back, of such a run the second clause says nothing
goes_back_to_forget : RunKeepsCooldown setup 1 0 None (forgotten (sec 114)) (forgotten_replies 1)
goes_back_to_forget = λ from. (tt, λ on. (tt, λ later. (tt, λ back. absurd (omega (arith, back)))))

-- where they never do, it refuses a grant that comes too soon
granted_too_soon_though_forgotten : RunKeepsCooldown setup 1 0 None
    (Listen 1 (sec 100) (sec 4) ∷ ForgetCooled (sec 109) ∷ listen 1 109 ∷ [])
    (reply.Listen true ∷ reply.ForgetCooled 0 ∷ reply.Listen true ∷ []) → ⊥
granted_too_soon_though_forgotten kept = absurd (omega (arith, (((kept (omega arith)).1 (omega arith)).1 (omega arith)).0))

-- BLOCKS, of 60 s

granted_while_blocked : RunKeepsBlocks setup 1 0 [] (Block 1 (sec 100) ∷ listen 1 159 ∷ []) (reply.Block true ∷ reply.Listen true ∷ []) → ⊥
granted_while_blocked kept = absurd (omega (arith, ((kept (omega arith)).1 (omega arith)).0.0))

dialled_while_blocked : RunKeepsBlocks setup 1 0 [] (Block 1 (sec 100) ∷ dial 1 159 ∷ []) (reply.Block true ∷ reply.Dial true ∷ []) → ⊥
dialled_while_blocked kept = absurd (omega (arith, ((kept (omega arith)).1 (omega arith)).0.0))

granted_at_the_end : RunKeepsBlocks setup 1 0 [] (Block 1 (sec 100) ∷ listen 1 160 ∷ []) (reply.Block true ∷ reply.Listen true ∷ [])
granted_at_the_end = λ from. (tt, λ on. ((omega arith, tt), tt))

granted_where_not_taken : RunKeepsBlocks setup 1 0 [] (Block 1 (sec 100) ∷ listen 1 159 ∷ []) (reply.Block false ∷ reply.Listen true ∷ [])
granted_where_not_taken = λ from. (tt, λ on. (tt, tt))

-- moments go back: of such a run the law says nothing
goes_back : RunKeepsBlocks setup 1 0 [] (Block 1 (sec 100) ∷ UnblockExpired (sec 1000) ∷ listen 1 120 ∷ [])
    (reply.Block true ∷ reply.UnblockExpired true ∷ reply.Listen true ∷ [])
goes_back = λ from. (tt, λ on. (tt, λ back. absurd (omega (arith, back))))

-- .. but that of the last block does: a block that was ended is over, one that holds isn't
ended_is_over : KeepLastBlock setup 1 None (Block 1 (sec 100) ∷ UnblockExpired (sec 1000) ∷ listen 1 120 ∷ [])
    (reply.Block true ∷ reply.UnblockExpired true ∷ reply.Listen true ∷ [])
ended_is_over = (tt, tt, (tt, tt, (tt, tt, tt)))

granted_before_the_end : KeepLastBlock setup 1 None
    (Block 1 (sec 100) ∷ UnblockExpired (sec 159) ∷ listen 1 50 ∷ [])
    (reply.Block true ∷ reply.UnblockExpired false ∷ reply.Listen true ∷ []) → ⊥
granted_before_the_end kept = absurd (omega (arith, kept.2.2.0))

-- an end that was refused memory ends nothing; a block may not be taken while one holds
blocked_twice : KeepLastBlock setup 1 None (Block 1 (sec 100) ∷ UnblockExpired (sec 160) ∷ Block 1 (sec 159) ∷ [])
    (reply.Block true ∷ reply.OutOfMemory ∷ reply.Block true ∷ []) → ⊥
blocked_twice kept = absurd (omega (arith, kept.2.2.1))

-- DIALS of those whom an answer lists

abbrev dialled : List (Call ℕ ℕ)
dialled = Ask (DialableAt (sec 100)) ∷ dial 2 100 ∷ dial 1 100 ∷ []

abbrev dial_replies : Dialable ℕ ℕ → Bool → List (Reply ℕ ℕ)
dial_replies answer granted = reply.Dialable answer ∷ reply.OutOfMemory ∷ reply.Dial granted ∷ []

dial_is_refused : (answer : Dialable ℕ ℕ) → answer.peers.items ≡ 1 ∷ 2 ∷ [] → KeepDialable setup dialled (dial_replies answer false) → ⊥
dial_is_refused answer lists kept =
    let dials = subst (λ ps. AreGrantedAt setup (sec 100) ps (dial 2 100 ∷ dial 1 100 ∷ []) (reply.OutOfMemory ∷ reply.Dial false ∷ [])) lists
    (kept.0 (sec 100) answer refl refl).0 in
    ((dials refl refl).1 refl refl).0

dials_are_granted : (answer : Dialable ℕ ℕ) → KeepDialable setup dialled (dial_replies answer true)
dials_are_granted answer = (
  (λ t given asked told. ((λ at listed. (tt, λ at listed. (tt, tt))), tt)),
  ((λ t given asked told. absurd (cc)), ((λ t given asked told. absurd (cc)), tt)),
)

-- QUIET TIME: an answer at 100 s, and one at t

abbrev asked : ℕ → List (Call ℕ ℕ)
asked t = Ask (DialableAt (sec 100)) ∷ Ask NumberTracked ∷ Ask (DialableAt (sec t)) ∷ []

abbrev ask_replies : Dialable ℕ ℕ → Dialable ℕ ℕ → List (Reply ℕ ℕ)
ask_replies first later = reply.Dialable first ∷ reply.Tracked 1 ∷ reply.Dialable later ∷ []

changes_too_soon : (first later : Dialable ℕ ℕ) → first.peers.items ≡ [] → later.peers.items ≡ 1 ∷ [] → next_query first ≡ Some (sec 105) →
    KeepDialable setup (asked 104) (ask_replies first later) → ⊥
changes_too_soon first later none one next kept =
    let same = (kept.0 (sec 100) first refl refl).1.1.0 (sec 104) later refl refl (omega arith)
    (subst (λ o. IsBefore (sec 104) o) (sym next) (omega arith)) in
    absurd (let e = sym one ∙ same.0 ∙ none in cc)

-- what an answer tells, and what is asked
abbrev told_by : Dialable ℕ ℕ → Reply ℕ ℕ → Dialable ℕ ℕ
told_by other (reply.Dialable answer) = answer
told_by other _ = other

abbrev moment_asked : Question ℕ → ℕ
moment_asked (DialableAt t) = t
moment_asked _ = 0

changes_in_time : (first later : Dialable ℕ ℕ) → next_query first ≡ Some (sec 105) →
    KeepDialable setup (asked 105) (ask_replies first later)
changes_in_time first later next = (
  (λ t given asked told. (tt, ((λ u answer asked told. absurd (cc)), ((too_late t given told), tt)))),
  ((λ t given asked told. absurd (cc)), ((λ t given asked told. (tt, tt)), tt)),
)
  where
    too_late : (t : ℕ) (given : Dialable ℕ ℕ) → reply.Dialable first ≡ reply.Dialable given →
        IsRepeated setup t given.peers.items (next_query given) (DialableAt (sec 105)) (reply.Dialable later)
    too_late t given told u answer asked again from before =
        let is : next_query given ≡ Some (sec 105) = ap next_query (sym (ap (told_by first) told)) ∙ next in
        let soon = subst (λ o. IsBefore u o) is before in
        absurd (omega (arith, soon, ap moment_asked asked))

stays_for_ever : (first later : Dialable ℕ ℕ) → next_query first ≡ None →
    KeepDialable setup (asked 1_000_000) (ask_replies first later) → later.peers.items ≡ first.peers.items
stays_for_ever first later next kept =
    ((kept.0 (sec 100) first refl refl).1.1.0 (sec 1_000_000) later refl refl (omega arith)
    (subst (λ o. IsBefore (sec 1_000_000) o) (sym next) tt)).0
