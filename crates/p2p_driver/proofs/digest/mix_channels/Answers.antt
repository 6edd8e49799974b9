use Rattle.std.proofs.Common.{◌∙◌, ap, sym, drop, arith, length-drop}
use Rattle.std.proofs.lemmas.List.{nil_from_length}
use Rattle.p2p_driver.specs.Digests.{digest_on, words_of}
use Rattle.p2p_driver.proofs.digest.mix_channels.Goals as goal

pub loop-channel-init : goal.loop-channel-init
loop-channel-init c = ap (λ h. digest_on h (words_of c.args.channels.now)) (sym c.mix-hash.ensures)

pub returns : goal.returns
returns c = sym (c.loop-channel.invariant ∙ ap (λ cs. digest_on c.loop-channel.hash (words_of cs))
    (nil_from_length (drop c.loop-channel.channel-index c.args.channels.now)
    (omega (
      arith,
      length-drop c.loop-channel.channel-index c.args.channels.now,
      c.loop-channel-test.false,
    ))))
