use Rattle.std.proofs.Common.{◌≡◌, rules}
use borrow.Author.Tests.{tests}
use Rattle.std.proofs.lemmas.Iterator.{cases_from_all}
use Rattle.std.proofs.lemmas.Iterator.Consumers.{YieldsList-from_first}
use Rattle.packing.proofs.Readings.{all-null}
use Rattle.packing.proofs.reading.all_null.Goals as goal

pub returns : goal.returns
returns c =
    let xs = c.args.rest in
    all-null c.all.result xs
    (cases_from_all c.all.new.self _ c.all.result (λ w. w ≡ 0) (λ w. w ≡ 0 → ⊥) c.all.ensures.ran (YieldsList-from_first (λ x. x) (λ s. s) xs cc)
    (λ x q k. search (rules, tests)) (λ x q k. search (rules, tests)))
