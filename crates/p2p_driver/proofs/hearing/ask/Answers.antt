use Rattle.std.proofs.Common.{◌≡◌, ◌∙◌, ◌<◌, ◌+◌, ℕ, Bool, true, false, Option, Some, None, max, sym, subst, arith}
use Rattle.std.specs.Prelude.{if◌then◌else◌, option_map}
use Rattle.std.specs.BTreeMap.{is_at}
use Rattle.std.specs.Duration.{as_nanos}
use Rattle.std.specs.Option.{IsSomeAnd}
use Rattle.std.specs.declared.time.Duration.{Duration}
use Rattle.p2p_driver.specs.declared.links.Asked.{Asked}
use Rattle.p2p_driver.specs.declared.links.Held.{Held}
use Rattle.p2p_driver.specs.Links.{saying, is_to_ask}
use Rattle.p2p_driver.proofs.hearing.ask.Goals as goal

-- a tick takes some time
later : (t tick : ℕ) → t < t + max tick 1
later t tick = grind (arith)

-- one on which a frame was said is still to be asked
still_due : (tick t : ℕ) (said : Option Duration) (b : Bool) (o o2 : Option Held) → o2 ≡ (if b then option_map (saying said) o else o) →
    IsSomeAnd o (λ h. is_to_ask tick t h ≡ true) → IsSomeAnd o2 (λ h. is_to_ask tick t h ≡ true)
still_due tick t said b None o2 is due = absurd due
still_due tick t said true (Some h) o2 is due = subst (λ o. IsSomeAnd o (λ h. is_to_ask tick t h ≡ true)) (sym is) due
still_due tick t said false (Some h) o2 is due = subst (λ o. IsSomeAnd o (λ h. is_to_ask tick t h ≡ true)) (sym is) due

-- one fewer, of as many
fewer : (new mid old : ℕ) → new + 1 ≡ mid → mid ≡ old → new + 1 ≡ old
fewer new mid old less same = less ∙ same

pub returns-in-Some-clause-fewer : goal.returns-in-Some-clause-fewer
returns-in-Some-clause-fewer g c tick is = fewer _ _ _ (c.ask.ensures.fewer tick (as_nanos c.args.now)
    (subst (λ (a : Asked). as_nanos c.args.now < as_nanos a.at + max tick 1) (sym c.after.ensures) (later (as_nanos c.args.now) tick))
    (still_due tick (as_nanos c.args.now) _ (is_at (g.C.Ord.cmp c.args.peer.now) c.args.peer.now) _ _ (c.say_question.ensures.links c.args.peer.now) is))
    (c.say_question.ensures.to_ask tick (as_nanos c.args.now))

pub returns-in-None-clause-fewer : goal.returns-in-None-clause-fewer
returns-in-None-clause-fewer g c tick is = fewer _ _ _ (c.ask-in-None.ensures.fewer tick (as_nanos c.args.now)
    (subst (λ (a : Asked). as_nanos c.args.now < as_nanos a.at + max tick 1) (sym c.tried.ensures) (later (as_nanos c.args.now) tick))
    (still_due tick (as_nanos c.args.now) _ (is_at (g.C.Ord.cmp c.args.peer.now) c.args.peer.now) _ _ (c.say_question.ensures.links c.args.peer.now) is))
    (c.say_question.ensures.to_ask tick (as_nanos c.args.now))

pub returns-in-Some-clause-counts : goal.returns-in-Some-clause-counts
returns-in-Some-clause-counts g c way = c.ask.ensures.counts way ∙ c.say_question.ensures.counts way

pub returns-in-None-clause-counts : goal.returns-in-None-clause-counts
returns-in-None-clause-counts g c way = c.ask-in-None.ensures.counts way ∙ c.say_question.ensures.counts way
