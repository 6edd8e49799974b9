use Rattle.std.proofs.Common.{◌≡◌, ◌∙◌, ◌++◌, [], ◌∷◌, ℕ, Bool, true, false, Option, Some, None, refl, sym, ap, subst}
use Rattle.std.proofs.lemmas.List.{append_assoc}
use Rattle.std.specs.Prelude.{if◌then◌else◌, option_map, List}
use Rattle.std.specs.BTreeMap.{is_at}
use Rattle.std.specs.Cmp.{IsTotalOrder}
use Rattle.std.specs.Option.{IsSomeAnd}
use Rattle.std.specs.declared.cmp.Ordering.{Ordering}
use Rattle.std.specs.declared.time.Duration.{Duration}
use Rattle.p2p_driver.specs.declared.actions.Action.TheVariants as action
use Rattle.p2p_driver.specs.declared.actions.Event.TheVariants as event
use Rattle.p2p_driver.specs.declared.links.Asked.{Asked}
use Rattle.p2p_driver.specs.declared.links.Held.{Held}
use Rattle.p2p_driver.specs.declared.questions.Question.{Question}
use Rattle.p2p_driver.specs.Happenings.{said_with}
use Rattle.p2p_driver.specs.Links.{link_of, opened, saying}
use Rattle.p2p_driver.specs.Questions.{asked_after, owed_with}
use Rattle.p2p_driver.proofs.DrivingFrames.{changed_twice}
use Rattle.p2p_driver.proofs.Linked.{alike}
use Rattle.p2p_driver.proofs.hearing.greet.Goals as goal

-- what is kept of the questions of a link is kept of it by whichever of equal keys
asked_of : {C : Type 0} {cmp : C → C → Ordering} (total : IsTotalOrder cmp) (links : List (C × Held)) (peer q : C) (asked : Asked) →
    IsSomeAnd (link_of cmp links peer) (λ h. h.asked ≡ asked) → is_at (cmp peer) q ≡ true → (h : Held) → link_of cmp links q ≡ Some h →
    h.asked ≡ asked
asked_of total links peer q asked has at h is = subst (λ o. IsSomeAnd o (λ h. h.asked ≡ asked)) (alike total links peer q at ∙ is) has

-- a link on which a question was said, and which is open then
greeted_at : (b : Bool) (t : Duration) (o o2 : ℕ) (a asked : Asked) (question : Option Question) (x x2 : Option Held) →
    (b ≡ true → (h : Held) → x ≡ Some h → h.asked ≡ asked) → o2 ≡ o → a ≡ asked_after t question asked →
    x2 ≡ (if b then option_map (λ h. opened t o2 a (saying (said_with t question) h)) x else x) →
    x2 ≡ (if b then option_map (λ h. saying (said_with t question) (opened t o (asked_after t question h.asked) h)) x else x)
greeted_at true t o o2 a asked question None x2 has owed after is = is
greeted_at true t o o2 a asked question (Some h) x2 has owed after is = is
    ∙ ap (λ k. Some (saying (said_with t question) (opened t k a h))) owed
    ∙ ap (λ y. Some (saying (said_with t question) (opened t o y h))) (after ∙ ap (asked_after t question) (sym (has refl h refl)))
greeted_at false t o o2 a asked question x x2 has owed after is = is

pub returns-in-Some-clause-greets : goal.returns-in-Some-clause-greets
returns-in-Some-clause-greets g c info = (
  Some c.in-Some.question,
  c.in-Some.ensures.next,
  c.in-Some.ensures.room,
  record {
    links_are = λ q. greeted_at (is_at (g.C.Ord.cmp c.args.peer.now) q) c.args.now (owed_with (Some c.in-Some.question) c.args.pace.now.owed c.args.owed) c.owed-owed.result c.after.result c.args.asked (Some c.in-Some.question)
        (link_of g.C.Ord.cmp c.args.links.now q) (link_of g.C.Ord.cmp c.open.new.self q)
        (asked_of {cmp = g.C.Ord.cmp} g.met.C.Ord.total c.args.links.now c.args.peer.now q c.args.asked c.requires.asked) c.owed-owed.ensures c.after.ensures
        (changed_twice (is_at (g.C.Ord.cmp c.args.peer.now) q) (saying (Some c.args.now)) (opened c.args.now c.owed-owed.result c.after.result)
        (link_of g.C.Ord.cmp c.args.links.now q) (link_of g.C.Ord.cmp c.say_question.new.links q) (link_of g.C.Ord.cmp c.open.new.self q)
        (c.in-Some.ensures.links q) (c.open.ensures.links q));
    counts = λ way. c.open.ensures.counts way ∙ c.say_question.ensures.counts way;
    said = c.push-in-Some.ensures.items
        ∙ ap (λ xs. xs ++ action.Send (record { 0 = c.args.number }) c.in-Some.question.frame ∷ []) c.push.ensures.items
        ∙ append_assoc c.args.actions.now.items (action.Told (event.Up (record { 0 = c.args.number }) c.args.peer.now) ∷ [])
        (action.Send (record { 0 = c.args.number }) c.in-Some.question.frame ∷ []);
  },
)

pub returns-in-None-clause-greets : goal.returns-in-None-clause-greets
returns-in-None-clause-greets g c info = (
  None,
  tt,
  tt,
  record {
    links_are = λ q. greeted_at (is_at (g.C.Ord.cmp c.args.peer.now) q) c.args.now c.args.owed c.args.owed c.tried.result c.args.asked None
        (link_of g.C.Ord.cmp c.args.links.now q) (link_of g.C.Ord.cmp c.open-in-None.new.self q)
        (asked_of {cmp = g.C.Ord.cmp} g.met.C.Ord.total c.args.links.now c.args.peer.now q c.args.asked c.requires.asked) refl c.tried.ensures
        (changed_twice (is_at (g.C.Ord.cmp c.args.peer.now) q) (saying None) (opened c.args.now c.args.owed c.tried.result)
        (link_of g.C.Ord.cmp c.args.links.now q) (link_of g.C.Ord.cmp c.say_question.new.links q) (link_of g.C.Ord.cmp c.open-in-None.new.self q)
        (subst (λ r. link_of g.C.Ord.cmp c.say_question.new.links q ≡ (if is_at (g.C.Ord.cmp c.args.peer.now) q
        then option_map (saying (said_with c.args.now r)) (link_of g.C.Ord.cmp c.args.links.now q) else link_of g.C.Ord.cmp c.args.links.now q))
        c.in-None.is (c.say_question.ensures.links q)) (c.open-in-None.ensures.links q));
    counts = λ way. c.open-in-None.ensures.counts way ∙ c.say_question.ensures.counts way;
    said = c.give_back.ensures.items ∙ c.push.ensures.items;
  },
)
