-- Words for one thing and for many.
use Rattle.std.specs.Prelude.{ℕ, if◌then◌else◌, List, ◌==◌}

abbrev pub plural : ℕ → List ℕ → List ℕ → List ℕ
plural n one many = if n == 1 then one else many
