-- Faults in words, at their places in the line.
use Rattle.std.proofs.Common.{◌≡◌, List, ◌∷◌, Ok, sym, ap, ◌∙◌, subst}
use Rattle.std.specs.List.{AllByRecursion}
use Rattle.channels.specs.declared.ChannelSet.{ChannelSet}
use Rattle.notation.specs.Numbers.{and_then}
use Rattle.plans.specs.Lines.{add_in, channels_in}
use Rattle.plans.specs.Pieces.{Piece}

-- one word's channels more
module _ (s t : ChannelSet) (all ws : List Piece) (w : Piece) (is : all ≡ w ∷ ws) where
  pub one_more : add_in s w ≡ Ok t → channels_in t ws ≡ channels_in s all
  one_more e = sym (ap (channels_in s) is ∙ ap (λ r. and_then r (λ t. channels_in t ws)) e)

  pub first_and_rest : (P : Piece → Type 0) → AllByRecursion P all → P w × AllByRecursion P ws
  first_and_rest P h = subst (AllByRecursion P) is h
