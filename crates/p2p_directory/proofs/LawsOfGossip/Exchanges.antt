-- An exchange is applied, brings what is wanted and may be shared, and the asker then knows it.
use Rattle.std.proofs.Common.{◌≡◌, ℕ, ◌+◌, ◌≤◌, true, false, List, [], length, Some, None, sym, ◌∙◌, ap, arith}
use Rattle.std.specs.Prelude.{if◌then◌else◌, not, ◌==◌, option_map}
use Rattle.std.specs.List.{AllByRecursion}
use Rattle.std.specs.Ordering.{is_eq}
use Rattle.std.proofs.lemmas.Bool.{le-ltb, eq-eqb, and_parts, not-true}
use Rattle.std.proofs.lemmas.List.{length-map}
use Rattle.p2p_discovery.specs.declared.codec.error.CodecError.TheVariants.{InvalidLength}
use Rattle.p2p_discovery.specs.declared.discovery.Info.{Info}
use Rattle.p2p_discovery.specs.Judgement.{Judge, judge_of, is_signed, refusal, list_refusal}
use Rattle.p2p_tracker.specs.Calls.{Call, SetAt}
use Rattle.p2p_tracker.specs.Calls.Call.{Update}
use Rattle.p2p_tracker.specs.History
use Rattle.p2p_tracker.specs.World.{World}
use Rattle.p2p_tracker.specs.World
use Rattle.p2p_tracker.specs.Answers.{is_present_in, bits_of, set_at_place, set_with_index}
use Rattle.p2p_tracker.specs.Answers.{infos_for, shared_infos, wants, wants_with}
use Rattle.p2p_tracker.specs.Moments.{epoch_millis}
use Rattle.p2p_directory.specs.Run.{world_after, bit_vec_of}
use Rattle.p2p_directory.specs.Received.{Wire}
use Rattle.p2p_directory.specs.Exchange
use Rattle.p2p_directory.specs.Exchange.ExchangeOutcome.{AskRefused, ReplyRefused, Applied}
use Rattle.p2p_directory.specs.Nodes.{Made, standing_in}
use Rattle.p2p_directory.specs.Laws.Gossip.{IsUpToDate, wanted_info, wanted_infos}
use Rattle.p2p_directory.proofs.LawsOfGossip.Lists.{Member, from_members, member_filter_map}
use Rattle.p2p_directory.proofs.LawsOfGossip.Infos
use Rattle.p2p_directory.proofs.LawsOfGossip.Updates
use Rattle.p2p_directory.proofs.LawsOfGossip.Judged
use Rattle.p2p_directory.proofs.LawsOfGossip.Wanted

module _ {C S : Type 0} (wire : Wire C S) (asker replier : Made C S) where
  -- by what the asker judges
  abbrev pub judge : Judge C S
  judge = judge_of asker.directory.cmp wire.verifies asker.verifier

  abbrev pub IsSigned : Info C S → Type 0
  IsSigned i = is_signed judge i ≡ true

  -- the reply to the bits of a set that the replier retains with the same primary list
  pub reply_is : (w v : World C S) (x y : SetAt C) (now : ℕ) →
      set_with_index replier.directory v x.index ≡ Some y → y.primary ≡ x.primary →
      infos_for replier.directory v x.index (bits_of asker.directory w x) now ≡ Some
      (wanted_infos asker w replier v now x.primary)
  reply_is w v x y now retained one =
      let bits = bits_of asker.directory w x in
      let size : (length bits == length y.primary) ≡ true = eq-eqb (length bits) (length y.primary)
      (length-map x.primary (λ q. not (wants asker.directory q (w.peer q)))
      ∙ ap length (sym one)) in
      ap (λ o. elim o [
        | None ↦ Some []
        | Some z ↦ if length bits == length z.primary
            then Some (shared_infos replier.directory v (epoch_millis now) z.primary bits)
            else None
      ]) retained
      ∙ ap (λ b. if b then Some (shared_infos replier.directory v (epoch_millis now) y.primary bits)
      else None) size
      ∙ ap (λ ps. Some (shared_infos replier.directory v (epoch_millis now) ps bits)) one
      ∙ ap Some (Wanted.shared_is_wanted asker replier v (epoch_millis now) w x.primary)

  -- the asker's own key is never wanted
  pub wanted_other : (w : World C S) (p : C) → wants asker.directory p (w.peer p) ≡ true →
      History.is_own asker.directory p ≡ false
  wanted_other w p e = not-true (History.is_own asker.directory p)
      (and_parts (not (History.is_own asker.directory p))
      (wants_with asker.directory (w.peer p).status (w.peer p).known.fails (w.peer p).known.info)
      e).0

  module _ (asker_now replier_now : ℕ) (ds : List (Call C S))
      (exact : History.IsExact replier.directory)
      (given : Infos.AreGiven replier.directory IsSigned ds)
      (me : asker.verifier.me ≡ asker.directory.own.public_key)
      (past : replier_now ≤ asker_now + asker.verifier.synchrony_bound) where
    abbrev v : World C S
    v = world_after replier.directory ds

    -- what is brought is of the peer that it is brought for
    pub brought_key : (w : World C S) (p : C) (i : Info C S) →
        wanted_info asker w replier v (epoch_millis replier_now) p ≡ Some i → i.public_key ≡ p
    brought_key w p i e =
        let b = Wanted.brought_is asker replier v (epoch_millis replier_now) w p i e in
        exact i.public_key p (Infos.sharable_is_given replier.directory IsSigned ds given p i
        b.shared).1

    -- and the asker refuses none of it
    brought_fine : (w : World C S) (p : C) (i : Info C S) →
        wanted_info asker w replier v (epoch_millis replier_now) p ≡ Some i →
        refusal judge asker_now i ≡ None
    brought_fine w p i e =
        let b = Wanted.brought_is asker replier v (epoch_millis replier_now) w p i e in
        Judged.fine judge asker_now i
        (ap (λ q. is_eq (asker.directory.cmp q i.public_key)) me
        ∙ ap (History.is_own asker.directory) (brought_key w p i e) ∙ wanted_other w p b.wanted)
        (Judged.in_time i.timestamp replier_now asker_now asker.verifier.synchrony_bound b.timely
        past)
        (Infos.sharable_is_given replier.directory IsSigned ds given p i b.shared).0

    abbrev infos_of : World C S → List C → List (Info C S)
    infos_of w ps = wanted_infos asker w replier v replier_now ps

    wanted_fine : (w : World C S) (ps : List C) →
        AllByRecursion (λ i. refusal judge asker_now i ≡ None) (infos_of w ps)
    wanted_fine w ps = from_members (λ i. refusal judge asker_now i ≡ None) (infos_of w ps) (λ i m.
        let found = member_filter_map (wanted_info asker w replier v (epoch_millis replier_now)) ps
        i m in
        brought_fine w found.0 i found.2)

    -- THE EXCHANGE IS APPLIED, in any world of the asker
    pub exchange_applied : (w : World C S) (place : ℕ) (x y : SetAt C) →
        set_at_place asker.directory w place ≡ Some x →
        set_with_index replier.directory v x.index ≡ Some y → y.primary ≡ x.primary →
        length x.primary ≤ replier.limits.max_bit_vec →
        length (infos_of w x.primary) ≤ asker.limits.max_peers →
        length (infos_of w x.primary) ≤ asker.verifier.greatest_count →
        Exchange.exchanged_at (standing_in asker wire w) (standing_in replier wire v) place
        asker_now replier_now ≡ Applied (infos_of w x.primary)
    exchange_applied w place x y at retained one few_bits few few_taken =
        let bits = bits_of asker.directory w x in
        let infos = infos_of w x.primary in
        let a = standing_in asker wire w in
        let b = standing_in replier wire v in
        let size : length bits ≡ length x.primary = length-map x.primary
        (λ q. not (wants asker.directory q (w.peer q))) in
        ap (λ o. Exchange.asked_at a b asker_now replier_now
        (option_map bit_vec_of
        (option_map (λ (z : SetAt C). (z.index, bits_of asker.directory w z)) o))) at
        ∙ ap (λ c. if c then AskRefused (InvalidLength (length bits))
        else Exchange.replied_at a asker_now
        (infos_for replier.directory v x.index bits replier_now))
        (le-ltb replier.limits.max_bit_vec (length bits) (omega (arith, size, few_bits)))
        ∙ ap (Exchange.replied_at a asker_now) (reply_is w v x y replier_now retained one)
        ∙ ap (λ c. if c then ReplyRefused (InvalidLength (length infos))
        else Exchange.judged_at infos (list_refusal judge asker_now infos))
        (le-ltb asker.limits.max_peers (length infos) few)
        ∙ ap (Exchange.judged_at infos)
        (Judged.list_fine judge asker_now infos few_taken (wanted_fine w x.primary))

    -- AFTERWARDS the asker's infos are as new
    pub brought_are_known : ((p : C) → History.same asker.directory p p ≡ true) →
        (w : World C S) (place : ℕ) (x : SetAt C) → set_at_place asker.directory w place ≡ Some x →
        (i : Info C S) → Member (infos_of w x.primary) i →
        IsUpToDate (World.step asker.directory w (Update (infos_of w x.primary))) i
    brought_are_known itself w place x at i m =
        let found = member_filter_map (wanted_info asker w replier v (epoch_millis replier_now))
        x.primary i m in
        let b = Wanted.brought_is asker replier v (epoch_millis replier_now) w found.0 i found.2 in
        let key : i.public_key ≡ found.0 = brought_key w found.0 i found.2 in
        Updates.update_is_since asker.directory itself w (infos_of w x.primary) i m
        (ap (History.is_own asker.directory) key ∙ wanted_other w found.0 b.wanted)
        (ap (is_present_in asker.directory w) key ∙ Wanted.primary_at_place asker.directory itself w
        place x found.0 at found.1)
