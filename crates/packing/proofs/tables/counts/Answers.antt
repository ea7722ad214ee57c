use Rattle.std.proofs.Common.{refl}
use Rattle.packing.specs.Fields.{before, width, level}
use Rattle.packing.proofs.tables.counts.Goals as goal

-- each row is right by one computed test
pub returns-in-R1024 : goal.returns-in-R1024
unfolding before width level
returns-in-R1024 c = rw c.in-R1024.is refl

pub returns-in-R512 : goal.returns-in-R512
unfolding before width level
returns-in-R512 c = rw c.in-R512.is refl

pub returns-in-R256 : goal.returns-in-R256
unfolding before width level
returns-in-R256 c = rw c.in-R256.is refl

pub returns-in-R128 : goal.returns-in-R128
unfolding before width level
returns-in-R128 c = rw c.in-R128.is refl
