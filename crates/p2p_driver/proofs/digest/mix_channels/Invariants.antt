use Rattle.std.proofs.Common.{◌≡◌, ◌∷◌, length, drop}
use Rattle.p2p_driver.specs.Digests.{digest_on, words_of}
use Rattle.p2p_driver.proofs.digest.mix_channels.Given as goal

-- with those that are left it is the digest with all
abbrev pub invariant-loop-channel : goal.invariant-loop-channel
invariant-loop-channel l = digest_on l.fn.hash (length l.channels ∷ words_of l.channels)
    ≡ digest_on l.hash (words_of (drop l.channel-index l.channels))
