use Rattle.p2p_driver.proofs.heads.+number.Given as goal

abbrev pub decreases-number : goal.decreases-number
decreases-number l = l.left
