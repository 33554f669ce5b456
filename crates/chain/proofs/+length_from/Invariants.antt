-- The pieces still allowed fall with each call.
use Rattle.chain.proofs.+length_from.Given as goal

abbrev pub decreases-length_from : goal.decreases-length_from
decreases-length_from l = l.allowed
