-- The place of a byte of a text.
use Rattle.std.specs.Prelude.{ℕ, ◌+◌, List, not, count_by}
use Rattle.std.specs.List.{suffix_len}
use Rattle.ipdl_base.specs.declared.finding.Place.{Place}
use Rattle.ipdl_lex.specs.Pieces.{is_line_feed}

-- the place of the byte that follows these bytes of the file: its line is one more than their number of line feeds,
-- and its column one more than the number of bytes after the last of these
abbrev pub place_after : ℕ → List ℕ → Place
place_after file before = record {
  file = file;
  line = 1 + count_by is_line_feed before;
  column = 1 + suffix_len (λ b. not (is_line_feed b)) before;
}
