-- Believed: the scope's numbers by name, as in src/.
-- Assumes nothing.
use Rattle.std.specs.Prelude.{ℕ}

abbrev pub most_rows : ℕ
most_rows = 4096

abbrev pub least_area : ℕ
least_area = 65536

-- 2^40
abbrev pub most_size : ℕ
most_size = 1099511627776

abbrev pub most_name : ℕ
most_name = 255

abbrev pub name_room : ℕ
name_room = 256

abbrev pub most_path : ℕ
most_path = 4096

abbrev pub most_parts : ℕ
most_parts = 2048
