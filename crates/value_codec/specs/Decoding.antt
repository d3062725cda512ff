-- What bytes begin with: a frame, a part of one, or no frame.
use Rattle.std.specs.Prelude.{◌≡◌, ℕ, ◌+◌, ◌-◌, ◌<◌, ◌≤◌, ◌⊎◌, nat_lt, ℤ, if◌then◌else◌, List, length, take, drop, Option, Some, None, Result, Ok, Err}
use Rattle.ipdl_base.specs.declared.message.Body.{Body}
use Rattle.ipdl_base.specs.declared.message.Message.{Message}
use Rattle.ipdl_base.specs.declared.schema.Schema.{Schema}
use Rattle.ipdl_base.specs.Plain.{plain_message}
use Rattle.value_types.specs.declared.layout.Layout.{Layout}
use Rattle.value_types.specs.Fits.{Fits}
use Rattle.value_codec.specs.declared.decoding.DecodeResult.{DecodeResult}
use Rattle.value_codec.specs.declared.decoding.DecodeResult.TheVariants.{Frame, Short, Bad, NoMemory}
use Rattle.value_codec.specs.declared.fault.Fault.{Fault}
use Rattle.value_codec.specs.declared.header.Header.{Header}
use Rattle.value_codec.specs.Frames.{FrameType, header_size, header_of, header_fault, type_of, contents_at}
use Rattle.value_codec.specs.Spelling.{FrameOf}

-- the number of bytes of a frame with this header
abbrev pub whole_size : Layout → Header → ℕ
whole_size layout header = header_size layout + header.size

-- the payload that follows a header
abbrev pub payload_in : Layout → Header → List ℕ → List ℕ
payload_in layout header bytes = take header.size (drop (header_size layout) bytes)

abbrev pub contents_of_type : Layout → Schema → Header → Option FrameType → List ℕ → Result (ℤ × Body) Fault
contents_of_type layout schema header None payload = Err (record { rule = 0; left = 0 })
contents_of_type layout schema header (Some type) payload = contents_at layout schema type header.flags payload

-- the content of the payload of a complete frame with this header, where the header breaks no rule
abbrev pub contents_after : Layout → Schema → Header → List ℕ → Result (ℤ × Body) Fault
contents_after layout schema header bytes = contents_of_type layout schema header (type_of schema header.number) (payload_in layout header bytes)

abbrev pub contents : Layout → Schema → List ℕ → Result (ℤ × Body) Fault
contents layout schema bytes = contents_after layout schema (header_of layout bytes) bytes

abbrev pub message_from : Header → ℤ → Body → Message
message_from header made body = record { route = header.route; number = header.number; seq = header.seq; transaction = header.transaction; made = made; body = body }

abbrev pub with_contents : Layout → Header → Result (ℤ × Body) Fault → DecodeResult
with_contents layout header (Ok (made, body)) = Frame (message_from header made body) (whole_size layout header)
with_contents layout header (Err fault) = Bad (whole_size layout header - fault.left) fault.rule

abbrev pub after_sound_header : Layout → Schema → Header → List ℕ → DecodeResult
after_sound_header layout schema header bytes =
    if nat_lt (length bytes) (whole_size layout header) then Short (whole_size layout header - length bytes) else
    with_contents layout header (contents_after layout schema header bytes)

abbrev pub after_header : Layout → Schema → List ℕ → Option (ℕ × ℕ) → DecodeResult
after_header layout schema bytes (Some (offset, rule)) = Bad offset rule
after_header layout schema bytes None = after_sound_header layout schema (header_of layout bytes) bytes

-- what the bytes begin with
unfoldable pub begins : Layout → Schema → List ℕ → DecodeResult
begins layout schema bytes = if nat_lt (length bytes) (header_size layout) then Short (header_size layout - length bytes) else after_header layout schema bytes (header_fault layout schema bytes)

-- The result is this one, except for where boxes are, unless memory ran out.
abbrev pub Yields : DecodeResult → DecodeResult → Type 0
Yields NoMemory begun = Unit {0}
Yields (Frame message n) begun = begun ≡ Frame (plain_message message) n
Yields (Short n) begun = begun ≡ Short n
Yields (Bad offset rule) begun = begun ≡ Bad offset rule

-- The number of bytes that are missing from the header or, where a complete header breaks no rule, from the frame.
abbrev pub IsShort : Layout → Schema → List ℕ → ℕ → Type 0
IsShort layout schema bytes n =
    ((0 < n) × (length bytes + n ≡ header_size layout))
    ⊎ ((header_size layout ≤ length bytes) × (header_fault layout schema bytes ≡ None) × (0 < n) × (length bytes + n ≡ whole_size layout (header_of layout bytes)))

-- the first rule that the payload of a complete frame breaks, with its offset in the frame
abbrev pub PayloadFault : Layout → Schema → List ℕ → ℕ → ℕ → Type 0
PayloadFault layout schema bytes offset rule =
    (fault : Fault) × (whole_size layout (header_of layout bytes) ≤ length bytes) × (contents layout schema bytes ≡ Err fault)
    × (offset ≡ whole_size layout (header_of layout bytes) - fault.left) × (rule ≡ fault.rule)

-- The first broken rule, with its offset: a rule that a complete header breaks, or otherwise a rule that a complete
-- payload breaks.
abbrev pub FrameFault : Layout → Schema → List ℕ → ℕ → ℕ → Type 0
FrameFault layout schema bytes offset rule =
    (header_size layout ≤ length bytes)
    × ((header_fault layout schema bytes ≡ Some (offset, rule)) ⊎ ((header_fault layout schema bytes ≡ None) × PayloadFault layout schema bytes offset rule))

-- The bytes begin with a frame of the message, of n bytes.
pub record FrameBegins (layout : Layout) (schema : Schema) (bytes : List ℕ) (message : Message) (n : ℕ) : Type 0 where
  pub within : n ≤ length bytes
  pub frame : FrameOf layout schema message (take n bytes)

-- The result, unless memory ran out, is true of the bytes.
abbrev pub IsTrueOf : Layout → Schema → List ℕ → DecodeResult → Type 0
IsTrueOf layout schema bytes NoMemory = Unit {0}
IsTrueOf layout schema bytes (Frame message n) = FrameBegins layout schema bytes (plain_message message) n
IsTrueOf layout schema bytes (Short n) = IsShort layout schema bytes n
IsTrueOf layout schema bytes (Bad offset rule) = FrameFault layout schema bytes offset rule

-- a message that was decoded fits the schema
abbrev pub HasFitting : Schema → DecodeResult → Type 0
HasFitting schema (Frame message n) = Fits schema message
HasFitting schema _ = Unit {0}

-- a frame of n bytes with the message was decoded, unless memory ran out
abbrev pub IsFrame : DecodeResult → Message → ℕ → Type 0
IsFrame NoMemory message n = Unit {0}
IsFrame (Frame decoded size) message n = (plain_message decoded ≡ plain_message message) × (size ≡ n)
IsFrame (Short rest) message n = ⊥
IsFrame (Bad offset rule) message n = ⊥

abbrev pub IsShortBy : DecodeResult → ℕ → Type 0
IsShortBy NoMemory n = Unit {0}
IsShortBy (Frame decoded size) n = ⊥
IsShortBy (Short rest) n = rest ≡ n
IsShortBy (Bad offset rule) n = ⊥

abbrev pub IsBadAt : DecodeResult → ℕ → ℕ → Type 0
IsBadAt NoMemory at rule = Unit {0}
IsBadAt (Frame decoded size) at rule = ⊥
IsBadAt (Short rest) at rule = ⊥
IsBadAt (Bad offset number) at rule = (offset ≡ at) × (number ≡ rule)
