use Rattle.std.proofs.Common.{◌≡◌, true, false, sym, subst}
use Rattle.std.specs.Prelude.{IfSome, map}
use Rattle.std.specs.Option.{option_map_or}
use Rattle.std.specs.List.Sorted.{IsStrictlySortedBy}
use Rattle.std.specs.Ordering.{nat_cmp}
use Rattle.std.proofs.lemmas.Simd.{map-map}
use Rattle.std.specs.BTreeMap.{is_at}
use Rattle.p2p_tracker.specs.Record.{is_myself}
use Rattle.p2p_tracker.specs.Seen.{DirectoryView, record_of, cooldown_of}
use Rattle.p2p_tracker.specs.Private.Window.{plain_set}
use Rattle.p2p_tracker.proofs.SetsAndRecords.Cooled.{HasMoments, moments_of_record}
use Rattle.p2p_tracker.proofs.directory.Directory.agrees.Goals as goal

pub returns-clause-cooled : goal.returns-clause-cooled
returns-clause-cooled g c = λ q. moments_of_record (cooldown_of g.C.Ord.cmp c.args.self.now q) (record_of g.C.Ord.cmp c.args.self.now q)
    (subst (λ (d : DirectoryView g.row.C.Denot g.row.C-Signature.Denot). HasMoments (cooldown_of g.C.Ord.cmp d q)
    (record_of g.C.Ord.cmp d q)) c.self.view_is (c.self.invariant.cooled q))

pub returns-clause-own : goal.returns-clause-own
returns-clause-own g c = (
  c.self.inside.own,
  λ q. subst (λ (d : DirectoryView g.row.C.Denot g.row.C-Signature.Denot).
      (option_map_or (λ r. is_myself r.address) (record_of g.C.Ord.cmp d q) false ≡ is_at (g.C.Ord.cmp c.self.inside.own) q)
      × IfSome (record_of g.C.Ord.cmp d q) (λ r. is_myself r.address ≡ true → r.persistent ≡ true)) c.self.view_is
      (c.self.invariant.whole.own.is_own q, c.self.invariant.whole.own.persists q),
)

pub returns-clause-ascending : goal.returns-clause-ascending
returns-clause-ascending g c = subst (λ (d : DirectoryView g.row.C.Denot g.row.C-Signature.Denot).
    IsStrictlySortedBy nat_cmp (map (λ set. set.index) d.sets)) c.self.view_is
    (subst (IsStrictlySortedBy nat_cmp) (sym (map-map (λ set. set.index) plain_set c.self.inside.sets)) c.agrees.ensures)
