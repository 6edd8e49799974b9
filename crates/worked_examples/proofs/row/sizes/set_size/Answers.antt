use Rattle.std.proofs.Common.{refl, arith, ◌∷◌, []}
use Rattle.std.specs.List.Sorted.{IsStrictlySortedBy}
use Rattle.std.specs.Option.{option_copied}
use Rattle.p2p_discovery.specs.Laws.Keys.{key_total, exact_key}
use Rattle.p2p_discovery.proofs.Unions.{union_short}
use Rattle.worked_examples.proofs.row.sizes.set_size.Goals as goal

pub peer_set_size-requires-clause-primary : goal.peer_set_size-requires-clause-primary
unfolding IsStrictlySortedBy
peer_set_size-requires-clause-primary c = ((refl, tt), (tt, tt))

pub peer_set_size-requires-clause-secondary : goal.peer_set_size-requires-clause-secondary
unfolding IsStrictlySortedBy
peer_set_size-requires-clause-secondary c = ((refl, tt), (tt, tt))

pub peer_set_size-requires-clause-fits : goal.peer_set_size-requires-clause-fits
unfolding IsStrictlySortedBy
peer_set_size-requires-clause-fits c = λ all u.
    omega (
      arith,
      union_short key_total exact_key (record { 0 = 1 } ∷ record { 0 = 3 } ∷ [])
          (record { 0 = 2 } ∷ record { 0 = 3 } ∷ []) (option_copied c.args.extension) all ((refl, tt), (tt, tt))
          ((refl, tt), (tt, tt)) u,
    )
