-- Blocks of equal letters in front of a word.
use Rattle.std.proofs.Common.{ℕ, zero, suc, ◌<◌, ◌≤◌, List, ◌++◌}
use Rattle.std.specs.Prelude.{replicate}
use Rattle.coproduct_laws.proofs.LowAndHigh.{AreLow, AreHigh}

-- a block of equal low letters
pub low_block : (g n i : ℕ) (w : List ℕ) → i ≤ g → AreLow g w → AreLow g (replicate n i ++ w)
low_block g zero i w h hw = hw
low_block g (suc n) i w h hw = (h, low_block g n i w h hw)

-- a block of equal high letters
pub high_block : (g n i : ℕ) (w : List ℕ) → g < i → AreHigh g w → AreHigh g (replicate n i ++ w)
high_block g zero i w h hw = hw
high_block g (suc n) i w h hw = (h, high_block g n i w h hw)
