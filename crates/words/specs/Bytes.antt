-- Believed: runs of bytes: a part of a list, a list with a part written over, and numbers spelled in bytes, the least byte first.
-- Assumes nothing.
use Rattle.std.specs.Prelude.{ℕ, zero, suc, ◌+◌, ◌*◌, ◌/◌, ◌%◌, ◌<◌, List, [], ◌∷◌, ◌++◌, length, take, drop, get_or, replicate}

-- the n elements of l from index at
unfoldable pub part : List ℕ → ℕ → ℕ → List ℕ
part l at n = take n (drop at l)

-- l with bs written from index at, over as many elements
unfoldable pub over : List ℕ → ℕ → List ℕ → List ℕ
over l at bs = take at l ++ (bs ++ drop (at + length bs) l)

unfoldable pub zeros : ℕ → List ℕ
zeros n = replicate n 0

-- bs, cut or filled up with zeros to n bytes
unfoldable pub padded : ℕ → List ℕ → List ℕ
padded n bs = take n (bs ++ zeros n)

-- the number that bytes spell
unfoldable pub little_endian : List ℕ → ℕ
little_endian [] = 0
little_endian (b ∷ bs) = b + 256 * little_endian bs

-- the n least bytes of x
unfoldable pub spell : ℕ → ℕ → List ℕ
spell zero x = []
spell (suc n) x = (x % 256) ∷ spell n (x / 256)

-- the number that the n bytes from index at spell
unfoldable pub num : ℕ → List ℕ → ℕ → ℕ
num n l at = little_endian (part l at n)

-- the u64 at index at
abbrev pub word : List ℕ → ℕ → ℕ
word l at = num 8 l at

-- every element is a byte
unfoldable pub Bytes : List ℕ → Type 0
Bytes l = (i : ℕ) → get_or l i 0 < 256
