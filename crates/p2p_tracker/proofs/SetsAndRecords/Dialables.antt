-- Who may be dialled, by the entries of the records, and how long that stays.
use Rattle.std.proofs.Common.{◌≡◌, ℕ, ◌<◌, ◌≤◌, Bool, true, false, not, ◌&&◌, List, Option, Some, None, sym, ap, refl, ◌∙◌}
use Rattle.std.specs.Prelude.{if◌then◌else◌, nat_lt, nat_le}
use Rattle.std.specs.Option.{option_map_or, option_and_then}
use Rattle.std.specs.declared.cmp.Ordering.{Ordering}
use Rattle.std.proofs.Math.Bool.{and-false}
use Rattle.p2p_discovery.proofs.Truth.{nat_le-not_lt}
use Rattle.p2p_tracker.specs.declared.directory.Config.{Config}
use Rattle.p2p_tracker.specs.Calls.{SetAt, Cooldown}
use Rattle.p2p_tracker.specs.Blocks.{is_blocked, unblock_in}
use Rattle.p2p_tracker.specs.Dials.{IsBefore}
use Rattle.p2p_tracker.specs.Lists.{Lists, IsLeastOf}
use Rattle.p2p_tracker.specs.Record.{DialView, dial_status, is_dial_candidate, is_now, later_moment}
use Rattle.p2p_tracker.specs.Seen.{RecordView, ConfigView, DirectoryView, record_at, record_of, unblock_of}
use Rattle.p2p_tracker.specs.Directory.{is_dialable_in, query_moment_in, AreDialableIn}
use Rattle.p2p_tracker.specs.Private.Dialling.{dial_state, entry_state}
use Rattle.p2p_tracker.proofs.Definitions.Quiet
use Rattle.p2p_tracker.proofs.Definitions.Listed
use Rattle.p2p_tracker.proofs.Definitions.Listed.{lists_alike}

pub later_parts : (target : Bool) (dial t : ℕ) →
    is_now (if not target then DialView.Unavailable else if nat_lt t dial then DialView.After dial
    else DialView.Now) ≡ (target && nat_le dial t)
later_parts false dial t = refl
later_parts true dial t = go (nat_lt t dial) ∙ sym (nat_le-not_lt dial t)
  where
    go : (b : Bool) → is_now (if b then DialView.After dial else DialView.Now) ≡ not b
    go true = refl
    go false = refl

pub later_moments : (target : Bool) (dial t : ℕ) →
    later_moment
    (if not target then DialView.Unavailable else if nat_lt t dial then DialView.After dial else DialView.Now)
    ≡ (if target && nat_lt t dial then Some dial else None)
later_moments false dial t = refl
later_moments true dial t = go (nat_lt t dial)
  where
    go : (b : Bool) → later_moment (if b then DialView.After dial else DialView.Now) ≡ (if b then Some dial else None)
    go true = refl
    go false = refl

pub shuffle : (target free late : Bool) → (free && (target && late)) ≡ ((target && free) && late)
shuffle true true late = refl
shuffle true false late = refl
shuffle false true late = refl
shuffle false false late = refl

module _ {C S : Type 0} (cmp : C → C → Ordering) where
  module _ (config : ConfigView) (sets : List (SetAt C)) (records : List (C × RecordView C S))
      (blocks : List (C × ℕ)) (cooldowns : List (C × Cooldown)) (cfg : Config) (now : ℕ)
      (ips : config.allow_private_ips ≡ cfg.allow_private_ips) (dns : config.allow_dns ≡ cfg.allow_dns) where
    status_same : (r : RecordView C S) → dial_status now cfg.allow_private_ips cfg.allow_dns r ≡ dial_status now config.allow_private_ips config.allow_dns r
    status_same r = λ i. dial_status now (sym ips i) (sym dns i) r

    pub is_dialable_by : (q : C) →
        is_dialable_in cmp
        (record { config = config; sets = sets; records = records; blocks = blocks; cooldowns = cooldowns }) now q
        ≡ option_map_or (λ r. is_now (entry_state cmp blocks cfg now (q, r))) (record_at cmp records q) false
    is_dialable_by q = go (unblock_in cmp blocks q) (record_at cmp records q)
      where
        later : (until : ℕ) (r : RecordView C S) (b : Bool) → (not b && is_now (dial_status now config.allow_private_ips config.allow_dns r))
            ≡ is_now (if b then DialView.After until else dial_status now cfg.allow_private_ips cfg.allow_dns r)
        later until r true = refl
        later until r false = ap is_now (sym (status_same r))

        go : (unblock : Option ℕ) (o : Option (RecordView C S)) →
            (not (is_blocked unblock now) && option_map_or
            (λ r. is_now (dial_status now config.allow_private_ips config.allow_dns r)) o false)
            ≡ option_map_or (λ r. is_now (dial_state cfg now unblock r)) o false
        go unblock None = and-false (not (is_blocked unblock now))
        go None (Some r) = ap is_now (sym (status_same r))
        go (Some until) (Some r) = later until r (nat_lt now until)

    query_by : (q : C) →
        query_moment_in cmp
        (record { config = config; sets = sets; records = records; blocks = blocks; cooldowns = cooldowns }) now q
        ≡ option_and_then (λ r. later_moment (entry_state cmp blocks cfg now (q, r))) (record_at cmp records q)
    query_by q = go (unblock_in cmp blocks q) (record_at cmp records q)
      where
        later : (until : ℕ) (r : RecordView C S) (b : Bool) →
            (if b then Some until else later_moment (dial_status now config.allow_private_ips config.allow_dns r))
            ≡ later_moment (if b then DialView.After until else dial_status now cfg.allow_private_ips cfg.allow_dns r)
        later until r true = refl
        later until r false = ap later_moment (sym (status_same r))

        go : (unblock : Option ℕ) (o : Option (RecordView C S)) →
            option_and_then
            (λ r. if is_blocked unblock now then unblock else later_moment
            (dial_status now config.allow_private_ips config.allow_dns r)) o
            ≡ option_and_then (λ r. later_moment (dial_state cfg now unblock r)) o
        go unblock None = refl
        go None (Some r) = ap later_moment (sym (status_same r))
        go (Some until) (Some r) = later until r (nat_lt now until)

    pub are_dialable : (ps : List C) (next : Option ℕ) →
        Lists cmp (λ q. option_map_or (λ r. is_now (entry_state cmp blocks cfg now (q, r)))
        (record_at cmp records q) false) ps →
        IsLeastOf (λ q. option_and_then (λ r. later_moment (entry_state cmp blocks cfg now (q, r))) (record_at cmp records q)) next →
        AreDialableIn cmp (record { config = config; sets = sets; records = records; blocks = blocks; cooldowns = cooldowns }) now ps next
    are_dialable ps next listed least = (
      lists_alike cmp _ _ ps (λ q. sym (is_dialable_by q)) listed,
      Listed.least_alike _ _ next query_by least,
    )

  -- BEFORE THE NEXT QUERY

  -- of one peer: with its record, until when it is blocked, and two moments
  peer_stays : (d : DirectoryView C S) (unblock : Option ℕ) (o : Option (RecordView C S)) (t u : ℕ) → t ≤ u →
      ((n : ℕ) → option_and_then
      (λ r. if is_blocked unblock t then unblock else later_moment
      (dial_status t d.config.allow_private_ips d.config.allow_dns r)) o ≡ Some n → u < n) →
      ((not (is_blocked unblock u) && option_map_or
      (λ r. is_now (dial_status u d.config.allow_private_ips d.config.allow_dns r)) o false)
      ≡ (not (is_blocked unblock t) && option_map_or
      (λ r. is_now (dial_status t d.config.allow_private_ips d.config.allow_dns r)) o false))
      × (option_and_then
      (λ r. if is_blocked unblock u then unblock else later_moment
      (dial_status u d.config.allow_private_ips d.config.allow_dns r)) o
      ≡ option_and_then
      (λ r. if is_blocked unblock t then unblock else later_moment
      (dial_status t d.config.allow_private_ips d.config.allow_dns r)) o)
  peer_stays d unblock None t u le next = (and-false (not (is_blocked unblock u)) ∙ sym (and-false (not (is_blocked unblock t))), refl)
  peer_stays d unblock (Some r) t u le next =
      let alike = Quiet.stays target true unblock r.next_dial_at t u (λ e. absurd (cc)) le (λ n e. next n (query_is t ∙ e)) in
      (due_is u ∙ alike.0 ∙ sym (due_is t), query_is u ∙ alike.1 ∙ sym (query_is t))
    where
      target : Bool
      target = is_dial_candidate d.config.allow_private_ips d.config.allow_dns r

      due_is : (t : ℕ) →
          (not (is_blocked unblock t) && is_now (dial_status t d.config.allow_private_ips d.config.allow_dns r))
          ≡ Quiet.due target unblock r.next_dial_at t
      due_is t = ap (λ b. not (is_blocked unblock t) && b) (later_parts target r.next_dial_at t)
          ∙ shuffle target (not (is_blocked unblock t)) (nat_le r.next_dial_at t)

      query_is : (t : ℕ) →
          (if is_blocked unblock t then unblock else later_moment
          (dial_status t d.config.allow_private_ips d.config.allow_dns r))
          ≡ Quiet.query target true unblock r.next_dial_at t
      query_is t = ap (λ o. if is_blocked unblock t then unblock else o) (later_moments target r.next_dial_at t)

  pub stay_dialable : (d : DirectoryView C S) (t u : ℕ) (ps : List C) (next : Option ℕ) →
      AreDialableIn cmp d t ps next → t ≤ u → IsBefore u next → AreDialableIn cmp d u ps next
  stay_dialable d t u ps next told le before = (
    lists_alike cmp _ _ ps (λ q. sym (alike q).0) told.0,
    Listed.least_alike _ _ next (λ q. (alike q).1) told.1,
  )
    where
      alike : (q : C) → (is_dialable_in cmp d u q ≡ is_dialable_in cmp d t q) × (query_moment_in cmp d u q ≡ query_moment_in cmp d t q)
      alike q = peer_stays d (unblock_of cmp d q) (record_of cmp d q) t u le (Listed.least_later (query_moment_in cmp d t) u next before told.1 q)
