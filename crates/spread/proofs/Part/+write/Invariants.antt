use Rattle.spread.proofs.Part.+write.Given as goal

abbrev pub decreases-write : goal.decreases-write
decreases-write l = l.self.width
