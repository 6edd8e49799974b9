use Rattle.std.proofs.Common.{◌≡◌, ℕ, List, ◌++◌, Result, Ok, Err, refl}
use Rattle.std.specs.Prelude.{IfOk}
use Rattle.p2p_discovery.specs.declared.codec.error.CodecError.{CodecError}
use Rattle.p2p_discovery.specs.declared.types.ingress.Ingress.{Ingress}
use Rattle.p2p_discovery.specs.Ingress.{IsIngress, ingress_at, ingress_spelling}
use Rattle.p2p_discovery.specs.Reading.{Gives, IsBytes, Leaves}
use Rattle.p2p_discovery.specs.Laws.Ingress.{lawful_ingress}
use Rattle.p2p_discovery.proofs.ReadLaws.{only_err, only_ok}
use Rattle.p2p_session.proofs.setup.front_ingress.Goals as goal

found : (result : Result Ingress CodecError) (old new : List ℕ) → IsBytes old → Gives result new (ingress_at old) →
    IfOk result (λ i. IsIngress i × (old ≡ ingress_spelling i ++ new))
found (Ok i) old new are gives = lawful_ingress.takes old i new are gives
found (Err e) old new are gives = tt

pub returns-clause-found : goal.returns-clause-found
returns-clause-found c = found c.read.result c.args.left.now c.read.new.reader c.rest.ensures.bytes c.read.ensures

only : (result : Result Ingress CodecError) (old new : List ℕ) → Gives result new (ingress_at old) →
    (i : Ingress) (rest : List ℕ) → IsIngress i → old ≡ ingress_spelling i ++ rest → Leaves result new i rest
only (Ok x) old new gives i rest is e = only_ok lawful_ingress old old refl x new i rest gives is e
only (Err fault) old new gives i rest is e = only_err lawful_ingress old old refl fault i rest gives is e

pub returns-clause-only : goal.returns-clause-only
returns-clause-only c = only c.read.result c.args.left.now c.read.new.reader c.read.ensures
