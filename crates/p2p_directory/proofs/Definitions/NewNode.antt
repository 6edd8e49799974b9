-- A node that stands somewhere: the asker of the worked examples, as it is made, with one record. A
-- node with no record doesn't.
use Rattle.std.proofs.Common.{◌≡◌, ℕ, ◌||◌, Bool, true, false, cond, List, [], ◌∷◌, Some, None, refl, sym, subst, ap}
use Rattle.std.proofs.Common.{◌∙◌, arith}
use Rattle.std.specs.Ordering.{nat_cmp}
use Rattle.std.proofs.lemmas.Cmp.{nat_cmp_total, eq_by_cmp_equiv}
use Rattle.p2p_tracker.specs.declared.record.Address.TheVariants.{Myself}
use Rattle.p2p_tracker.specs.declared.record.Status.TheVariants.{Inert}
use Rattle.p2p_tracker.specs.History.{life, is_own}
use Rattle.p2p_tracker.specs.World.{World}
use Rattle.p2p_tracker.specs.Answers.{is_present_in}
use Rattle.p2p_tracker.specs.Seen.{DirectoryView, RecordView, record_of}
use Rattle.p2p_directory.specs.Nodes.{NodeView, NodeStandsAt}
use Rattle.p2p_directory.specs.Refinement.{config_of, record_in}
use Rattle.p2p_directory.specs.Run.{world_after}
use Rattle.p2p_directory.proofs.Definitions.Keys.{exact_from}
use Rattle.p2p_directory.proofs.Definitions.GossipExamples.{asker, own_of_9}
use Rattle.p2p_directory.proofs.Definitions.RunPremises.{exact}

abbrev w : World ℕ ℕ
w = world_after asker.directory []

abbrev own_record : RecordView ℕ ℕ
own_record = record {
  address = Myself own_of_9;
  status = Inert;
  primary_sets = 0;
  secondary_sets = 0;
  persistent = true;
  next_reservable_at = 0;
  next_dial_at = 0;
}

abbrev with_records : List (ℕ × RecordView ℕ ℕ) → DirectoryView ℕ ℕ
with_records records = record {
  config = config_of asker.directory;
  sets = [];
  records = records;
  blocks = [];
  cooldowns = [];
}

abbrev new_directory : DirectoryView ℕ ℕ
new_directory = with_records ((9, own_record) ∷ [])

abbrev node_with : DirectoryView ℕ ℕ → NodeView ℕ ℕ
node_with d = record { directory = d; held = []; slots = []; limits = asker.limits; verifier = asker.verifier }

abbrev IsRecorded : ℕ → Type 0
IsRecorded p = record_of nat_cmp new_directory p
    ≡ cond (is_present_in asker.directory w p) (Some (record_in asker.directory w p)) None

at_own : IsRecorded 9
unfolding life
at_own = refl

recorded : (p : ℕ) → IsRecorded p
recorded p = go (is_own asker.directory p) refl
  where
    go : (b : Bool) → is_own asker.directory p ≡ b → IsRecorded p
    go true e = subst IsRecorded (exact_from asker.directory nat_cmp refl exact 9 p e) at_own
    go false e =
        ap (λ c. cond c (Some own_record) None) ((eq_by_cmp_equiv nat_cmp_total).symm p 9 ∙ e)
        ∙ sym (ap (λ c. cond c (Some (record_in asker.directory w p)) None)
        (ap (λ c. ((c || false) || false) || false) e))

stands : NodeStandsAt asker [] (node_with new_directory)
stands = record {
  limit_fits = omega arith;
  refines = record {
    config = refl;
    sets = refl;
    records = recorded;
    blocks = λ p. refl;
    cooldowns = λ p. refl;
  };
  holds = record { peers = λ p. refl; metadata = λ p. refl };
  limits = refl;
  verifier = refl;
}

without_records_is_refused : NodeStandsAt asker [] (node_with (with_records [])) → ⊥
unfolding life
without_records_is_refused at = absurd (let e : None ≡ Some own_record = at.refines.records 9 in cc)
