use Rattle.std.proofs.Common.{Option, ◌∙◌, ap, subst}
use Rattle.std.specs.Option.{option_map}
use Rattle.p2p_tracker.specs.Directory.{Updates}
use Rattle.p2p_tracker.specs.Seen.{record_of, RecordView}
use Rattle.p2p_discovery.specs.declared.discovery.Info.{Info}
use Rattle.p2p_tracker.specs.Record.{address_after_offer}
use Rattle.p2p_directory.proofs.LawsOfRuns.Ordered
use Rattle.p2p_directory.proofs.laws.directories.order_is_free.Goals as goal

pub returns-clause-alike : goal.returns-clause-alike
returns-clause-alike g c = λ s w xs ys have one. Ordered.updates_alike s w xs ys have one

pub returns-clause-joined : goal.returns-clause-joined
returns-clause-joined g c = λ s w xs ys. Ordered.updates_join s w xs ys

pub returns-clause-later : goal.returns-clause-later
returns-clause-later g c = λ s some es cs ds h. Ordered.later_alike s some es cs ds h

abbrev offered : {C S : Type 0} → Option (Info C S) → RecordView C S → RecordView C S
offered o r = record r { address = address_after_offer o r.address }

pub returns-clause-effects : goal.returns-clause-effects
returns-clause-effects g c = λ s e old new xs ys have one. subst (λ cmp. Updates cmp old new xs → Updates cmp old new ys) e (λ h. record {
  config = h.config;
  sets = h.sets;
  blocks = h.blocks;
  cooldowns = h.cooldowns;
  records = λ q. h.records q ∙ ap (λ o. option_map (offered o) (record_of s.cmp old q)) (Ordered.same_greatest s q xs ys have one);
})
