use Rattle.std.proofs.Common.{◌∙◌, sym, ap}
use Rattle.std.specs.BTreeMap.{is_at}
use Rattle.std.specs.List.{zip}
use Rattle.std.specs.Map.{lookup, set_value}
use Rattle.std.specs.Option.{is_some}
use Rattle.std.specs.Ordering.{is_eq}
use Rattle.std.proofs.lemmas.Cmp.{tied_itself}
use Rattle.p2p_discovery.proofs.BitLists.{set_at, set_nowhere, no_place, first_there}
use Rattle.p2p_discovery.proofs.sets.bit_set.BitSet.update.Goals as goal

pub returns-in-Some : goal.returns-in-Some
returns-in-Some g c =
    let test = λ (k : g.row.P.Denot). is_at (g.P.Ord.cmp c.args.peer.now) k in
    let found = c.in-Some.ensures.found in
    let both = set_at test c.args.peer.now (ap is_eq (tied_itself g.met.P.Ord.total c.args.peer.now))
    c.self.inside.ordered c.self.inside.knowledge c.in-Some.place c.args.known c.self.invariant
    found.in_range found.at_place
    (first_there g.met.P.Ord.total g.met.P.PublicKey.exact c.args.peer.now c.self.inside.ordered c.in-Some.place
    c.in-Some.ensures.sorted found.in_range found.at_place) in
    record {
      answer = sym both.1 ∙ ap (λ es. is_some (lookup test es)) c.self.view_is;
      after =
          ap (λ bits. zip c.self.inside.ordered bits) c.set.ensures ∙ both.0
          ∙ ap (λ es. set_value test es c.args.known) c.self.view_is;
    }

pub returns-in-None : goal.returns-in-None
returns-in-None g c =
    let test = λ (k : g.row.P.Denot). is_at (g.P.Ord.cmp c.args.peer.now) k in
    let both = set_nowhere test c.args.peer.now c.self.inside.ordered c.self.inside.knowledge c.args.known
    (no_place g.met.P.Ord.total g.met.P.PublicKey.exact c.args.peer.now c.self.inside.ordered
    c.in-None.ensures.absent) in
    record { answer = sym both.1 ∙ ap (λ es. is_some (lookup test es)) c.self.view_is; after = rw (← c.self.view_is) both.0 }
