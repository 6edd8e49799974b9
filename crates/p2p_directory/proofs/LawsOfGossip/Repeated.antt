-- After an update no more is wanted than before, and an exchange that is repeated changes nothing.
use Rattle.std.proofs.Common.{◌≡◌, ℕ, ◌+◌, ◌≤◌, Bool, true, false, ◌&&◌, List, ◌∷◌, length, Option}
use Rattle.std.proofs.Common.{Some, None, refl, sym, subst, arith}
use Rattle.std.specs.Prelude.{if◌then◌else◌, filter, nat_lt, nat_le, not}
use Rattle.std.proofs.lemmas.Bool.{leb-true, le-leb}
use Rattle.p2p_discovery.specs.declared.discovery.Info.{Info}
use Rattle.p2p_tracker.specs.Lists.{first_greatest}
use Rattle.p2p_tracker.specs.declared.record.Status.{Status}
use Rattle.p2p_tracker.specs.declared.record.Status.TheVariants.{Active}
use Rattle.p2p_tracker.specs.Calls.{Settings, Call, SetAt}
use Rattle.p2p_tracker.specs.Calls.Call.{Update}
use Rattle.p2p_tracker.specs.History
use Rattle.p2p_tracker.specs.World.{World, Known}
use Rattle.p2p_tracker.specs.World
use Rattle.p2p_tracker.specs.Answers.{is_present_in, set_at_place, set_with_index, wants, wants_with}
use Rattle.p2p_tracker.specs.Moments.{epoch_millis}
use Rattle.p2p_directory.specs.Run.{world_after}
use Rattle.p2p_directory.specs.Received.{Wire}
use Rattle.p2p_directory.specs.Exchange
use Rattle.p2p_directory.specs.Exchange.ExchangeOutcome.{Applied}
use Rattle.p2p_directory.specs.Nodes.{Made, standing_in}
use Rattle.p2p_directory.specs.Laws.Gossip.{wanted_info, wanted_infos}
use Rattle.p2p_tracker.proofs.Definitions.Knowledge
use Rattle.p2p_directory.proofs.Definitions.Law
use Rattle.p2p_directory.proofs.LawsOfGossip.Lists.{IsLess, length_less, member_less}
use Rattle.p2p_directory.proofs.LawsOfGossip.Infos
use Rattle.p2p_directory.proofs.LawsOfGossip.Updates
use Rattle.p2p_directory.proofs.LawsOfGossip.Wanted
use Rattle.p2p_directory.proofs.LawsOfGossip.Exchanges

module _ {C S : Type 0} (s : Settings C S) where
  -- NO MORE IS WANTED

  limit_less : (limit fails : ℕ) (newer : Bool) → nat_le limit (if newer then 0 else fails) ≡ true →
      nat_le limit fails ≡ true
  limit_less limit fails true e = le-leb limit fails (omega (arith, leb-true limit 0 e))
  limit_less limit fails false e = e

  wants_some : (status : Status) (fails : ℕ) (newer : Bool) (i j : Info C S) →
      wants_with s status (if newer then 0 else fails) (Some j) ≡ true →
      wants_with s status fails (Some i) ≡ true
  wants_some Active fails newer i j e = absurd (cc)
  wants_some _ fails newer i j e = limit_less s.dial_fail_limit fails newer e

  wants_none : (status : Status) (fails : ℕ) → wants_with s status fails None ≡ true
  wants_none Active fails = refl
  wants_none _ fails = refl

  wants_with_less : (status : Status) (fails : ℕ) (newer : Bool) (a x : Option (Info C S)) →
      wants_with s status (if newer then 0 else fails) (Knowledge.later a x) ≡ true →
      wants_with s status fails a ≡ true
  wants_with_less status fails newer None x e = wants_none status fails
  wants_with_less status fails newer (Some i) None e = wants_some status fails newer i i e
  wants_with_less status fails newer (Some i) (Some j) e = go (nat_lt i.timestamp j.timestamp) e
    where
      go : (b : Bool) → wants_with s status (if newer then 0 else fails)
          (if b then Some j else Some i) ≡ true → wants_with s status fails (Some i) ≡ true
      go true f = wants_some status fails newer i j f
      go false f = wants_some status fails newer i i f

  wants_known : (p : C) (status : Status) (k : Known C S) (xs : List (Info C S)) →
      wants s p (record { status = status; known = World.known_with_infos s k xs }) ≡ true →
      wants s p (record { status = status; known = k }) ≡ true
  wants_known p status k xs e = go (History.is_own s p)
      (subst (λ (x : Known C S). wants s p (record { status = status; known = x }) ≡ true)
      (Knowledge.updated_all_with_best s k xs) e)
    where
      best : Option (Info C S)
      best = first_greatest xs

      go : (own : Bool) → (not own && wants_with s status
          (if History.is_newer k.info best then 0 else k.fails) (Knowledge.later k.info best))
          ≡ true → (not own && wants_with s status k.fails k.info) ≡ true
      go true f = f
      go false f = wants_with_less status k.fails (History.is_newer k.info best) k.info best f

  -- after an update
  pub wants_less : (w : World C S) → Updates.AreForgotten s w → (infos : List (Info C S)) (p : C) →
      wants s p ((World.step s w (Update infos)).peer p) ≡ true → wants s p (w.peer p) ≡ true
  wants_less w gone infos p e = go (is_present_in s w p) refl (History.is_own s p) e
    where
      mine : List (Info C S)
      mine = filter (λ i. History.same s i.public_key p) infos

      go : (b : Bool) → is_present_in s w p ≡ b → (own : Bool) →
          wants s p (record {
            status = (w.peer p).status;
            known = if b
                then (if own then (w.peer p).known
                else World.known_with_infos s (w.peer p).known mine)
                else World.new_known s p;
          }) ≡ true →
          wants s p (w.peer p) ≡ true
      go true present true f = f
      go true present false f = wants_known p (w.peer p).status (w.peer p).known mine f
      go false absent own f =
          subst (λ (k : Known C S). wants s p
          (record { status = (w.peer p).status; known = k }) ≡ true) (sym (gone p absent)) f

module _ {C S : Type 0} (wire : Wire C S) (asker replier : Made C S) (asker_now replier_now : ℕ)
    (cs ds : List (Call C S))
    (some : 1 ≤ asker.directory.max_sets)
    (itself : (p : C) → History.same asker.directory p p ≡ true)
    (exact_asker : History.IsExact asker.directory) (exact : History.IsExact replier.directory)
    (given : Infos.AreGiven replier.directory (Exchanges.IsSigned wire asker replier) ds)
    (me : asker.verifier.me ≡ asker.directory.own.public_key)
    (past : replier_now ≤ asker_now + asker.verifier.synchrony_bound) where
  abbrev w : World C S
  w = world_after asker.directory cs

  abbrev v : World C S
  v = world_after replier.directory ds

  abbrev infos_of : World C S → SetAt C → List (Info C S)
  infos_of u x = wanted_infos asker u replier v replier_now x.primary

  -- the asker's world after the exchange
  abbrev after : SetAt C → World C S
  after x = World.step asker.directory w (Update (infos_of w x))

  gone_after : (x : SetAt C) → Updates.AreForgotten asker.directory (after x)
  gone_after x = subst (Updates.AreForgotten asker.directory)
      (Law.recomputed_is_one_step asker.directory some cs (Update (infos_of w x)))
      (Updates.forgotten asker.directory (Update (infos_of w x) ∷ cs))

  less : (x : SetAt C) (p : C) →
      IsLess (wanted_info asker (after x) replier v (epoch_millis replier_now) p)
      (wanted_info asker w replier v (epoch_millis replier_now) p)
  less x p = Wanted.brought_less asker replier v (epoch_millis replier_now) w (after x) p
      (wants_less asker.directory w (Updates.forgotten asker.directory cs) (infos_of w x) p)

  pub fewer : (x : SetAt C) → length (infos_of (after x) x) ≤ length (infos_of w x)
  fewer x = length_less (wanted_info asker (after x) replier v (epoch_millis replier_now))
      (wanted_info asker w replier v (epoch_millis replier_now)) x.primary (λ p m. less x p)

  -- the infos of the repeated exchange are known already
  pub repeated_changes_nothing : (place : ℕ) (x : SetAt C) →
      set_at_place asker.directory w place ≡ Some x →
      World.step asker.directory (after x) (Update (infos_of (after x) x)) ≡ after x
  repeated_changes_nothing place x at = Updates.update_is_known asker.directory exact_asker
      (after x) (gone_after x) (infos_of (after x) x) (λ i m present.
      Exchanges.brought_are_known wire asker replier asker_now replier_now ds exact given me past
      itself w place x at i
      (member_less (wanted_info asker (after x) replier v (epoch_millis replier_now))
      (wanted_info asker w replier v (epoch_millis replier_now)) x.primary (λ p n. less x p) i
      m))

  pub repeated_is_applied : (place : ℕ) (x y : SetAt C) →
      set_at_place asker.directory w place ≡ Some x →
      set_with_index replier.directory v x.index ≡ Some y → y.primary ≡ x.primary →
      length x.primary ≤ replier.limits.max_bit_vec →
      length (infos_of w x) ≤ asker.limits.max_peers →
      length (infos_of w x) ≤ asker.verifier.greatest_count →
      Exchange.exchanged_at (standing_in asker wire (after x)) (standing_in replier wire v) place
      asker_now replier_now ≡ Applied (infos_of (after x) x)
  repeated_is_applied place x y at retained one few_bits few few_taken =
      Exchanges.exchange_applied wire asker replier asker_now replier_now ds exact given me past
      (after x) place x y at retained one few_bits
      (omega (arith, fewer x, few)) (omega (arith, fewer x, few_taken))
