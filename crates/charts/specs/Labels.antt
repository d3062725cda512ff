-- The label of a row: the words of its line, with long values cut.
use Rattle.std.specs.Prelude.{ℕ, ℤ, suc, ◌-◌, ◌==◌, ◌&&◌, nat_lt, Bool, if◌then◌else◌, List, [], ◌∷◌, ◌++◌, codes, length, Option, Some, None, take, option_map}
use Rattle.std.specs.Ordering.{int_eq}
use Rattle.ipdl_base.specs.declared.line.What.{What}
use Rattle.ipdl_base.specs.declared.line.What.TheVariants as what
use Rattle.ipdl_base.specs.declared.schema.Schema.{Schema}
use Rattle.ipdl_base.specs.declared.value.Values.{Values}
use Rattle.ipdl_base.specs.Sides.{top_id}
use Rattle.history.specs.Text.{numbered, request_text}
use Rattle.charts.specs.Escapes.{shown}

-- whether a byte goes on with a character of UTF-8
abbrev pub is_continuation : ℕ → Bool
is_continuation byte = nat_lt 127 byte && nat_lt byte 192

-- How many bytes of values and the bracket after them are kept, if they have more than so many characters before it.
abbrev pub kept_values : ℕ → List ℕ → Option ℕ
kept_values left [] = None
kept_values left (byte ∷ rest) =
    if is_continuation byte then option_map suc (kept_values left rest) else
    (if left == 0 then (if length rest == 0 then None else Some 0) else option_map suc (kept_values (left - 1) rest))

-- How many bytes of a line are kept, if its values, which are in brackets at its end, have more than 40 characters.
abbrev pub kept_length : List ℕ → Option ℕ
kept_length [] = None
kept_length (byte ∷ rest) = option_map suc (if byte == 40 then kept_values 40 rest else kept_length rest)

-- an ellipsis, as UTF-8
abbrev pub ellipsis : List ℕ
ellipsis = 226 ∷ 128 ∷ 166 ∷ []

-- what is shown of a line, by how many bytes are kept
abbrev pub cut_by : Option ℕ → List ℕ → List ℕ
cut_by None text = shown text
cut_by (Some kept) text = shown (take kept text) ++ ellipsis ++ codes ")"

-- a line with its values cut after 40 characters
abbrev pub cut : List ℕ → List ℕ
cut text = cut_by (kept_length text) text

-- the actor that a request goes to, unless it is the top
abbrev pub route_text : ℤ → List ℕ
route_text route = if int_eq route top_id then [] else numbered (codes " #") route

-- a request: its verb and number, its actor, its message and its values
abbrev pub request_label : Schema → List ℕ → ℤ → ℤ → ℕ → Values → List ℕ
request_label schema verb n route message values = numbered verb n ++ route_text route ++ (codes " " ++ request_text schema message values)

-- The words of a row, before they are cut: those of the line, but a request without its transaction and the id of the top.
abbrev pub row_words : Schema → List ℕ → What → List ℕ
row_words schema words (what.Send n route message values) = request_label schema (codes "send ") n route message values
row_words schema words (what.Call n transaction route message values) = request_label schema (codes "call ") n route message values
row_words schema words (what.Take n route message values) = request_label schema (codes "take ") n route message values
row_words schema words _ = words
