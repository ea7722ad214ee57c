-- The formulas that the standard prints hold by computation.
use Rattle.std.proofs.Common.{refl}
use Rattle.tree.specs.Printed.{Printed}

pub printed : Printed
printed W = (
  record {
    F1 = refl;
    F2 = refl;
    F3 = refl;
    F4 = refl;
    F5 = refl;
    F6 = refl;
    F7 = refl;
    F8 = refl;
    F9 = refl;
    F10 = refl;
    F11 = refl;
    F12 = refl;
    F13 = refl;
    F14 = refl;
    F15 = refl;
    F16 = refl;
  },
  record {
    F1 = refl;
    F2 = refl;
    F3 = refl;
    F4 = refl;
    F5 = refl;
    F6 = refl;
    F7 = refl;
    F8 = refl;
    F9 = refl;
    F10 = refl;
    F11 = refl;
    F12 = refl;
    F13 = refl;
    F14 = refl;
    F15 = refl;
    F16 = refl;
    F17 = refl;
  },
  record {
    F1 = refl;
    F2 = refl;
    F3 = refl;
    F4 = refl;
    F5 = refl;
    F6 = refl;
    F7 = refl;
    F8 = refl;
    F9 = refl;
    F10 = refl;
    F11 = refl;
    F12 = refl;
    F13 = refl;
    F14 = refl;
    F15 = refl;
    F16 = refl;
    F17 = refl;
    F18 = refl;
    F19 = refl;
    F20 = refl;
    F21 = refl;
  },
  record {
    F1 = refl;
    F2 = refl;
    F3 = refl;
    F4 = refl;
    F5 = refl;
    F6 = refl;
    F7 = refl;
    F8 = refl;
    F9 = refl;
    F10 = refl;
    F11 = refl;
    F12 = refl;
    F13 = refl;
    F14 = refl;
    F15 = refl;
    F16 = refl;
    F17 = refl;
    F18 = refl;
    F19 = refl;
    F20 = refl;
    F21 = refl;
    F22 = refl;
    F23 = refl;
    F24 = refl;
    F25 = refl;
    F26 = refl;
    F27 = refl;
    F28 = refl;
    F29 = refl;
  },
)
