use Rattle.std.proofs.Common.{rules, [], refl}
use Rattle.p2p_driver.specs.Drivers.{wire_with}
use Rattle.p2p_driver.proofs.Driving.{stands_new}
use Rattle.p2p_driver.proofs.driver.Driver.new.Goals as goal

pub invariant_of-result : goal.invariant_of-result
invariant_of-result g c = (
  record {
    given = c.args.setup;
    pace = c.args.pace;
    history = [];
    stands = stands_new g.C.Ord.cmp (wire_with g.C.PublicKey.verifies g.C.FixedBytes.spelled g.C.Signature.FixedBytes.spelled
        g.C.FixedBytes.SIZE g.C.FixedBytes.value g.C.Signature.FixedBytes.SIZE g.C.Signature.FixedBytes.value) c.args.setup c.in_ok-node.node c.args.pace c.in_ok-greeting.greeting _ c.new-3.result
        c.new-4.result c.new-5.result c.new-6.result c.new-7.result refl refl c.new-2.ensures c.in_ok-node.ensures.stands (search rules) c.new-3.ensures
        (c.new-4.ensures.kept c.args.pace 0) c.new-5.ensures c.new-6.ensures c.new-7.ensures.items;
  },
  record { actions_fit = search rules; answers_fit = search rules },
)

pub returns : goal.returns
returns g c = record {
  stands = stands_new g.C.Ord.cmp (wire_with g.C.PublicKey.verifies g.C.FixedBytes.spelled g.C.Signature.FixedBytes.spelled
      g.C.FixedBytes.SIZE g.C.FixedBytes.value g.C.Signature.FixedBytes.SIZE g.C.Signature.FixedBytes.value) c.args.setup c.in_ok-node.node c.args.pace c.in_ok-greeting.greeting _ c.new-3.result
      c.new-4.result c.new-5.result c.new-6.result c.new-7.result refl refl c.new-2.ensures c.in_ok-node.ensures.stands (search rules) c.new-3.ensures
      (c.new-4.ensures.kept c.args.pace 0) c.new-5.ensures c.new-6.ensures c.new-7.ensures.items;
}
