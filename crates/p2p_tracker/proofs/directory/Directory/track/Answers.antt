use Rattle.std.proofs.Common.{◌≡◌, Bool, refl, ◌++◌, ◌∷◌, [], ◌&&◌, not, false, sym, ◌∙◌, ap, subst}
use Rattle.std.specs.Option.{option_map_or}
use Rattle.std.specs.Int.NonZero.{non_zero_usize_get}
use Rattle.p2p_discovery.proofs.Results.{OnErr-from}
use Rattle.p2p_tracker.specs.declared.record.Status.{Status}
use Rattle.p2p_tracker.specs.declared.record.Status.TheVariants.{Inert}
use Rattle.p2p_tracker.specs.PeerSets.{set_of}
use Rattle.p2p_tracker.specs.Lists.{last_of}
use Rattle.p2p_tracker.specs.Status.{is_inert, is_reserved}
use Rattle.p2p_tracker.specs.Record.{is_eligible}
use Rattle.p2p_tracker.specs.Directory.{record_with_sets, is_connectable, has_status}
use Rattle.p2p_tracker.specs.Seen.{DirectoryView, config_view, record_at, record_of}
use Rattle.p2p_tracker.specs.Private.Window.{plain_sets}
use Rattle.p2p_tracker.specs.Cooldowns.{cooldown_in}
use Rattle.p2p_tracker.specs.Private.Counts.{IsDirectoryInvariant}
use Rattle.p2p_tracker.proofs.SetsAndRecords.Cooled.{cooled_each, cooled_with_sets}
use Rattle.p2p_tracker.proofs.SetsAndRecords.Consistent.{all_restored, status_with_sets}
use Rattle.p2p_tracker.proofs.SetsAndRecords.Taken.{IsTaken, taken_window}
use Rattle.p2p_tracker.proofs.directory.Directory.track.Goals as goal

-- where memory was refused, all is as it was
same : (g : _) (c : goal.After-drop-torn g) → c.add.new.records ≡ c.self.inside.records
same g c =
    let cmp = g.C.Ord.cmp in
    let max = non_zero_usize_get c.self.inside.config.max_sets in
    c.in_err-add.ensures.records
    (all_restored cmp max (plain_sets c.self.inside.sets) (record_at cmp c.self.inside.records)
    c.self.invariant.whole.counts (cooldown_in cmp c.self.inside.cooldowns))

pub invariant_of-self : goal.invariant_of-self
invariant_of-self g c =
    let cmp = g.C.Ord.cmp in
    let max = non_zero_usize_get c.self.inside.config.max_sets in
    let limit = c.self.inside.config.dial_fail_limit in
    let cooldowns = cooldown_in cmp c.self.inside.cooldowns in
    subst (λ rs. IsDirectoryInvariant cmp max limit c.self.inside.own c.add.new.sets (record_at cmp rs) cooldowns) (sym (same g c))
    (subst (λ sets. IsDirectoryInvariant cmp max limit c.self.inside.own sets (record_at cmp c.self.inside.records) cooldowns) (sym c.in_err-add.ensures.sets) c.self.invariant)

pub returns-in_err-add-clause-err : goal.returns-in_err-add-clause-err
returns-in_err-add-clause-err g c =
    OnErr-from c.from_residual-in_err-add.result
    ((λ i. record {
      config = config_view c.self.inside.config;
      sets = plain_sets (c.in_err-add.ensures.sets i);
      records = same g c i;
      blocks = c.self.inside.blocks;
      cooldowns = c.self.inside.cooldowns;
    })
    ∙ c.self.view_is)

-- .. and each status too
status_same : (g : _) (c : goal.After-drop-torn g) (test : Status → Bool) (q : g.row.C.Denot) →
    has_status test (record_at g.C.Ord.cmp c.add.new.records q)
    ≡ has_status test (record_of g.C.Ord.cmp c.args.self.now q)
status_same g c test q =
    let cmp = g.C.Ord.cmp in
    ap (λ rs. has_status test (record_at cmp rs q)) (same g c)
    ∙ ap (λ (d : DirectoryView g.row.C.Denot g.row.C-Signature.Denot). has_status test (record_of cmp d q))
    c.self.view_is

pub returns-in_err-add-clause-busy : goal.returns-in_err-add-clause-busy
returns-in_err-add-clause-busy g c = λ q h. status_same g c (λ status. not (is_inert status)) q ∙ h

pub returns-in_err-add-clause-reserved : goal.returns-in_err-add-clause-reserved
returns-in_err-add-clause-reserved g c = λ q h. status_same g c is_reserved q ∙ h

-- a set was taken
taken : (g : _) (c : goal.After-drop_oldest g) →
    IsTaken g.C.Ord.cmp (non_zero_usize_get c.self.inside.config.max_sets) c.self.inside.config.dial_fail_limit
    c.self.inside.own c.self.inside.sets c.drop_oldest.new.sets
    (set_of g.C.Ord.cmp c.args.index c.args.peers.primary c.args.peers.secondary)
    (cooldown_in g.C.Ord.cmp c.self.inside.cooldowns) (record_at g.C.Ord.cmp c.self.inside.records)
    (record_at g.C.Ord.cmp c.drop_oldest.new.records) c.drop_oldest.result
taken g c =
    taken_window g.C.Ord.cmp g.met.C.Ord.total (non_zero_usize_get c.self.inside.config.max_sets)
    c.get-max_sets.result c.self.inside.config.dial_fail_limit c.self.inside.sets c.add.new.sets
    c.drop_oldest.new.sets
    (set_of g.C.Ord.cmp c.args.index c.args.peers.primary c.args.peers.secondary) c.in_ok-set.set (cooldown_in g.C.Ord.cmp c.self.inside.cooldowns)
    (record_at g.C.Ord.cmp c.self.inside.records) (record_at g.C.Ord.cmp c.add.new.records)
    (record_at g.C.Ord.cmp c.drop_oldest.new.records) c.drop_oldest.result
    c.get-max_sets.ensures.value c.in_ok-set.ensures c.in_ok-add.ensures.ok c.drop_oldest.ensures.sets
    c.self.invariant.whole c.in_ok-add.ensures.disjoint c.in_ok-add.ensures.joined c.drop_oldest.ensures.change

pub invariant_of-self-2 : goal.invariant_of-self-2
invariant_of-self-2 g c = record {
  whole = (taken g c).invariant;
  cooled = cooled_each g.C.Ord.cmp (record_at g.C.Ord.cmp c.self.inside.records)
      (record_at g.C.Ord.cmp c.drop_oldest.new.records) (cooldown_in g.C.Ord.cmp c.self.inside.cooldowns)
      (λ q. record_with_sets g.C.Ord.cmp (plain_sets c.drop_oldest.new.sets)
      (cooldown_in g.C.Ord.cmp c.self.inside.cooldowns q) q) c.self.invariant.cooled (taken g c).records
      (λ q. cooled_with_sets g.C.Ord.cmp (plain_sets c.drop_oldest.new.sets) (cooldown_in g.C.Ord.cmp c.self.inside.cooldowns q) q);
}

pub returns-clause-taken : goal.returns-clause-taken
returns-clause-taken g c =
    let cmp = g.C.Ord.cmp in
    let set = set_of cmp c.args.index c.args.peers.primary c.args.peers.secondary in
    record {
      config = ap (λ (d : DirectoryView g.row.C.Denot g.row.C-Signature.Denot). d.config) c.self.view_is;
      sets = (taken g c).kept ∙ ap (λ (d : DirectoryView g.row.C.Denot g.row.C-Signature.Denot). last_of d.config.max_sets (d.sets ++ set ∷ [])) c.self.view_is;
      blocks = ap (λ (d : DirectoryView g.row.C.Denot g.row.C-Signature.Denot). d.blocks) c.self.view_is;
      cooldowns = ap (λ (d : DirectoryView g.row.C.Denot g.row.C-Signature.Denot). d.cooldowns) c.self.view_is;
      records = λ q. (taken g c).records q
          ∙ ap (λ (d : DirectoryView g.row.C.Denot g.row.C-Signature.Denot). record_with_sets cmp
          (plain_sets c.drop_oldest.new.sets) (cooldown_in cmp d.cooldowns q) q (record_at cmp d.records q))
          c.self.view_is;
    }

pub returns-clause-torn : goal.returns-clause-torn
returns-clause-torn g c =
    let cmp = g.C.Ord.cmp in
    record {
      sorted = c.drop_oldest.ensures.sorted;
      members = λ q.
          (taken g c).torn_down q
          ∙ ap (λ (d : DirectoryView g.row.C.Denot g.row.C-Signature.Denot). is_connectable cmp
          (record_at cmp d.records q) && not
          (option_map_or is_eligible (record_at cmp c.drop_oldest.new.records q) false)) c.self.view_is;
    }

-- who is not inert keeps its status
status_kept : (g : _) (c : goal.After-drop_oldest g) (test : Status → Bool) → test Inert ≡ false →
    (q : g.row.C.Denot) → has_status test (record_at g.C.Ord.cmp c.drop_oldest.new.records q)
    ≡ has_status test (record_of g.C.Ord.cmp c.args.self.now q)
status_kept g c test idle q =
    let cmp = g.C.Ord.cmp in
    ap (has_status test) ((taken g c).records q)
    ∙ status_with_sets cmp test idle (plain_sets c.drop_oldest.new.sets)
    (cooldown_in cmp c.self.inside.cooldowns q) q (record_at cmp c.self.inside.records q)
    ∙ ap (λ (d : DirectoryView g.row.C.Denot g.row.C-Signature.Denot). has_status test (record_of cmp d q)) c.self.view_is

pub returns-clause-busy : goal.returns-clause-busy
returns-clause-busy g c = λ q h. status_kept g c (λ status. not (is_inert status)) refl q ∙ h

pub returns-clause-reserved : goal.returns-clause-reserved
returns-clause-reserved g c = λ q h. status_kept g c is_reserved refl q ∙ h
