-- It keeps the laws: what reads nothing has nothing to show but its refusals.
use Rattle.std.specs.Prelude.{◌≡◌, refl}
use Rattle.std.proofs.Common.{sym, ap, arith}
use Rattle.piles.specs.Laws.{Lawful, number}
use Rattle.piles.specs.Calls.{err_ok, err_same}
use Rattle.mute.specs.Mute.{mute}

pub mute_lawful : Lawful mute
mute_lawful = record {
  sound = λ os s e. absurd (err_ok e);
  plain_claim = λ o h. refl;
  plain-set = λ o os h. refl;
  written = λ s L os e. absurd (err_ok e);
  refused = λ s L f e os l oct r. err_ok r;
  read_number = λ os f e. let same : number f ≡ 4 = ap number (sym (err_same e)) in omega arith;
  write_number = λ s L f e. let same : number f ≡ 6 = ap number (sym (err_same e)) in omega arith;
}
