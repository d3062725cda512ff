-- What bytes begin with does not depend on where the boxes of a schema are.
use Rattle.std.proofs.Common.{◌≡◌, ◌∙◌, ◌⊎◌, inl, inr, ℕ, ◌+◌, ◌-◌, ◌==◌, ◌<◌, ◌≤◌, cond, List, length, Option, Some, None, refl, sym, ap, subst}
use Rattle.std.specs.Prelude.{option_map, if◌then◌else◌, nat_lt}
use Rattle.ipdl_base.specs.declared.finding.TheConstants.Rule as rule
use Rattle.ipdl_base.specs.declared.message.Message.{Message}
use Rattle.ipdl_base.specs.declared.schema.MessageRow.{MessageRow}
use Rattle.ipdl_base.specs.declared.schema.Schema.{Schema}
use Rattle.ipdl_base.specs.Sound.{message_of}
use Rattle.value_types.specs.declared.layout.Layout.{Layout}
use Rattle.value_codec.specs.declared.decoding.DecodeResult.TheVariants.{Short}
use Rattle.value_codec.specs.Decoding.{begins, after_header, with_contents, whole_size, payload_in, contents_of_type, contents, FrameBegins, IsShort, FrameFault}
use Rattle.ipdl_base.specs.Sides.{goodbye_number}
use Rattle.value_codec.specs.Frames.{FrameType, goodbye, request, reply, header_size, header_of, header_fault, has_mark, after_mark, fields_fault, fault_of_type, request_or_reply, carried_type, type_of, contents_at}
use Rattle.value_codec.specs.Reading.{value_at}
use Rattle.value_codec.specs.Spelling.{reply_flags}
use Rattle.program_schema.specs.Laws.{plain_message_row, plain_schema}
use Rattle.schema_laws.proofs.ReadAlike.{request_read, returns_read, fault_read, value_read}
use Rattle.schema_laws.proofs.Rows.{either, message_alike}
use Rattle.schema_laws.proofs.Spelled.{frame_alike, size_alike}
use Rattle.schema_laws.proofs.Typed.{fits_from, fits_to}

-- Types of frames

plain_type : FrameType → FrameType
plain_type goodbye = goodbye
plain_type (request row) = request (plain_message_row row)
plain_type (reply row) = reply (plain_message_row row)

one_of_two : (n : ℕ) (row : MessageRow) → request_or_reply n (plain_message_row row) ≡ plain_type (request_or_reply n row)
unfolding plain_type
one_of_two n row = either plain_type (request row) (reply row) (row.number == n)

carried_alike : (n : ℕ) (row : Option MessageRow) → carried_type n (option_map plain_message_row row) ≡ option_map plain_type (carried_type n row)
carried_alike n None = refl
carried_alike n (Some row) = (λ i. cond row.carried (Some (one_of_two n row i)) None) ∙ either (option_map plain_type) (Some (request_or_reply n row)) None row.carried

frame_type_alike : (s : Schema) (n : ℕ) → type_of (plain_schema s) n ≡ option_map plain_type (type_of s n)
unfolding plain_type
frame_type_alike s n =
    (λ i. cond (n == goodbye_number) (Some goodbye) (carried_type n (message_alike s n i)))
    ∙ (λ i. cond (n == goodbye_number) (Some goodbye) (carried_alike n (message_of s n) i))
    ∙ either (option_map plain_type) (Some goodbye) (carried_type n (message_of s n)) (n == goodbye_number)

-- Headers

fault_alike : (header : _) (type : Option FrameType) → fault_of_type header (option_map plain_type type) ≡ fault_of_type header type
unfolding plain_type
fault_alike header None = refl
fault_alike header (Some goodbye) = refl
fault_alike header (Some (request row)) = refl
fault_alike header (Some (reply row)) = refl

fields_alike : (layout : Layout) (s : Schema) (header : _) → fields_fault layout (plain_schema s) header ≡ fields_fault layout s header
fields_alike layout s header =
    ap (λ (fault : Option (ℕ × ℕ)). if nat_lt layout.most_payload header.size then Some (0, (rule.LARGE_PAYLOAD).number) else fault)
    (ap (fault_of_type header) (frame_type_alike s header.number) ∙ fault_alike header (type_of s header.number))

header_alike : (layout : Layout) (s : Schema) (bytes : List ℕ) → header_fault layout (plain_schema s) bytes ≡ header_fault layout s bytes
header_alike layout s bytes = λ i. if has_mark layout bytes then after_mark layout (fields_alike layout s (header_of layout bytes) i) else Some (0, (rule.BAD_MARK).number)

-- Payloads

payload_alike : (layout : Layout) (s : Schema) (type : FrameType) (flags : ℕ) (bytes : List ℕ) → contents_at layout (plain_schema s) (plain_type type) flags bytes ≡ contents_at layout s type flags bytes
unfolding plain_type
payload_alike layout s goodbye flags bytes = refl
payload_alike layout s (request row) flags bytes =
    request_read (value_at (length bytes + 1) layout (plain_schema s)) (value_at (length bytes + 1) layout s) (value_read layout s (length bytes + 1)) row bytes
payload_alike layout s (reply row) flags bytes = λ i.
    if flags == reply_flags row then
    returns_read (value_at (length bytes + 1) layout (plain_schema s)) (value_at (length bytes + 1) layout s) (value_read layout s (length bytes + 1)) row bytes i else
    fault_read layout row bytes i

contents_of : (layout : Layout) (s : Schema) (header : _) (type : Option FrameType) (payload : List ℕ) → contents_of_type layout (plain_schema s) header (option_map plain_type type) payload ≡ contents_of_type layout s header type payload
contents_of layout s header None payload = refl
contents_of layout s header (Some type) payload = payload_alike layout s type header.flags payload

contents_alike : (layout : Layout) (s : Schema) (bytes : List ℕ) → contents layout (plain_schema s) bytes ≡ contents layout s bytes
contents_alike layout s bytes =
    (λ i. contents_of_type layout (plain_schema s) (header_of layout bytes) (frame_type_alike s (header_of layout bytes).number i) (payload_in layout (header_of layout bytes) bytes))
    ∙ contents_of layout s (header_of layout bytes) (type_of s (header_of layout bytes).number) (payload_in layout (header_of layout bytes) bytes)

-- What is there

after_alike : (layout : Layout) (s : Schema) (bytes : List ℕ) (fault : Option (ℕ × ℕ)) → after_header layout (plain_schema s) bytes fault ≡ after_header layout s bytes fault
after_alike layout s bytes None = λ i.
    if nat_lt (length bytes) (whole_size layout (header_of layout bytes)) then Short (whole_size layout (header_of layout bytes) - length bytes) else
    with_contents layout (header_of layout bytes) (contents_alike layout s bytes i)
after_alike layout s bytes (Some fault) = refl

pub decoded_alike : (layout : Layout) (s : Schema) (bytes : List ℕ) → begins layout (plain_schema s) bytes ≡ begins layout s bytes
unfolding begins
decoded_alike layout s bytes =
    (λ i. if nat_lt (length bytes) (header_size layout) then Short (header_size layout - length bytes) else after_header layout (plain_schema s) bytes (header_alike layout s bytes i))
    ∙ (λ i. if nat_lt (length bytes) (header_size layout) then Short (header_size layout - length bytes) else after_alike layout s bytes (header_fault layout s bytes) i)

-- Frames

pub short_alike : (layout : Layout) (s : Schema) (bytes : List ℕ) (n : ℕ) → IsShort layout (plain_schema s) bytes n ≡ IsShort layout s bytes n
short_alike layout s bytes n = λ i.
    ((0 < n) × (length bytes + n ≡ header_size layout))
    ⊎ ((header_size layout ≤ length bytes) × (header_alike layout s bytes i ≡ None) × (0 < n) × (length bytes + n ≡ whole_size layout (header_of layout bytes)))

pub bad_from : (layout : Layout) (s : Schema) (bytes : List ℕ) (offset rule : ℕ) → FrameFault layout (plain_schema s) bytes offset rule → FrameFault layout s bytes offset rule
bad_from layout s bytes offset rule (whole, inl is) = (whole, inl (sym (header_alike layout s bytes) ∙ is))
bad_from layout s bytes offset rule (whole, inr (none, (fault, more, says, at, is))) = (whole, inr (sym (header_alike layout s bytes) ∙ none, (fault, more, sym (contents_alike layout s bytes) ∙ says, at, is)))

pub bad_to : (layout : Layout) (s : Schema) (bytes : List ℕ) (offset rule : ℕ) → FrameFault layout s bytes offset rule → FrameFault layout (plain_schema s) bytes offset rule
bad_to layout s bytes offset rule (whole, inl is) = (whole, inl (header_alike layout s bytes ∙ is))
bad_to layout s bytes offset rule (whole, inr (none, (fault, more, says, at, is))) = (whole, inr (header_alike layout s bytes ∙ none, (fault, more, contents_alike layout s bytes ∙ says, at, is)))

pub begins_from : (layout : Layout) (s : Schema) (bytes : List ℕ) (m : Message) (n : ℕ) → FrameBegins layout (plain_schema s) bytes m n → FrameBegins layout s bytes m n
begins_from layout s bytes m n h = record {
  within = h.within;
  frame = record {
    fits = fits_from s m h.frame.fits;
    small = subst (λ size. size ≤ layout.most_payload) (size_alike layout s m) h.frame.small;
    spelled = h.frame.spelled ∙ frame_alike layout s m;
  };
}

pub begins_to : (layout : Layout) (s : Schema) (bytes : List ℕ) (m : Message) (n : ℕ) → FrameBegins layout s bytes m n → FrameBegins layout (plain_schema s) bytes m n
begins_to layout s bytes m n h = record {
  within = h.within;
  frame = record {
    fits = fits_to s m h.frame.fits;
    small = subst (λ size. size ≤ layout.most_payload) (sym (size_alike layout s m)) h.frame.small;
    spelled = h.frame.spelled ∙ sym (frame_alike layout s m);
  };
}
