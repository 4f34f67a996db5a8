-- Letters: the capitals A C G T, with codes 0 1 2 3. No other place says which byte is which letter.
-- Specification: 2.1.
use Rattle.std.specs.Prelude.{Bool, ℕ, ◌-◌, ◌/◌, ◌^◌, eqb, ltb}
use Rattle.std.specs.Int.Bits.{bit_and, bit_xor}
use Rattle.lists.specs.Choose.{choose}

-- the code of a byte: A 0, C 1, G 2, T 3; 4 for a byte that is no letter
unfoldable pub letter : ℕ → ℕ
letter b = choose (eqb b 65) 0 (choose (eqb b 67) 1 (choose (eqb b 71) 2 (choose (eqb b 84) 3 4)))

-- a byte is a letter
unfoldable pub is_letter : ℕ → Bool
unfolding letter
is_letter b = ltb (letter b) 4

-- the capital of a code
unfoldable pub capital : ℕ → ℕ
capital x = choose (eqb x 0) 65 (choose (eqb x 1) 67 (choose (eqb x 2) 71 84))

-- the code of a letter's pair: A and T, C and G exchanged
abbrev pub paired : ℕ → ℕ
paired x = 3 - x

-- What the machine computes of a byte without a branch: of a letter its code, of another byte some number below 4.
unfoldable pub two_bits : ℕ → ℕ
two_bits b = bit_xor (bit_and (b / 2 ^ 1) 3) (bit_and (b / 2 ^ 2) 1)
