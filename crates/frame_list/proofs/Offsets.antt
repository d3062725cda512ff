-- The place of a fault in bytes.
use Rattle.std.proofs.Common.{ℕ, ◌≤◌, Bool, true, false, List, length, Option, Some, None, arith, subst, inl, inr, lit≤}
use Rattle.std.specs.Prelude.{if◌then◌else◌, nat_lt, not}
use Rattle.ipdl_base.specs.declared.schema.Schema.{Schema}
use Rattle.value_types.specs.declared.layout.Layout.{Layout}
use Rattle.ipdl_base.specs.declared.finding.TheConstants.Rule as rule
use Rattle.value_codec.specs.Decoding.{FrameFault}
use Rattle.value_codec.specs.Frames.{FrameType, are_flags, is_route, is_seq, is_transaction, after_mark, fault_of_type, fields_fault, has_mark, header_fault, header_of, header_size, type_of}

-- a fault, if there is one, is at most at this offset
abbrev IsWithin : ℕ → Option (ℕ × ℕ) → Type 0
IsWithin most None = Unit {0}
IsWithin most (Some fault) = fault.0 ≤ most

either : (most : ℕ) (b : Bool) (x y : Option (ℕ × ℕ)) → IsWithin most x → IsWithin most y → IsWithin most (if b then x else y)
either most true x y p q = p
either most false x y p q = q

small : (place rule : ℕ) → place ≤ 24 → IsWithin 24 (Some (place, rule))
small place rule h = h

by_type : (layout : Layout) (bytes : List ℕ) (type : Option FrameType) → IsWithin 24 (fault_of_type (header_of layout bytes) type)
by_type layout bytes None = small 8 (rule.UNKNOWN_FRAME_TYPE).number (lit≤ tt)
by_type layout bytes (Some type) =
    let header = header_of layout bytes in
    let last : Option (ℕ × ℕ) = if not (is_transaction type header.transaction) then Some (20, (rule.BAD_FIELD).number) else None in
    let third : Option (ℕ × ℕ) = if not (is_seq type header.seq) then Some (16, (rule.BAD_FIELD).number) else last in
    let second : Option (ℕ × ℕ) = if not (is_route type header.route) then Some (4, (rule.BAD_FIELD).number) else third in
    either 24 (not (are_flags type header.flags)) (Some (12, (rule.BAD_FLAGS).number)) second (small 12 (rule.BAD_FLAGS).number (lit≤ tt))
    (either 24 (not (is_route type header.route)) (Some (4, (rule.BAD_FIELD).number)) third (small 4 (rule.BAD_FIELD).number (lit≤ tt))
    (either 24 (not (is_seq type header.seq)) (Some (16, (rule.BAD_FIELD).number)) last (small 16 (rule.BAD_FIELD).number (lit≤ tt))
    (either 24 (not (is_transaction type header.transaction)) (Some (20, (rule.BAD_FIELD).number)) None (small 20 (rule.BAD_FIELD).number (lit≤ tt)) tt)))

in_fields : (layout : Layout) (schema : Schema) (bytes : List ℕ) → IsWithin 24 (fields_fault layout schema (header_of layout bytes))
in_fields layout schema bytes =
    let header = header_of layout bytes in
    either 24 (nat_lt layout.most_payload header.size) (Some (0, (rule.LARGE_PAYLOAD).number)) (fault_of_type header (type_of schema header.number))
    (small 0 (rule.LARGE_PAYLOAD).number (lit≤ tt)) (by_type layout bytes (type_of schema header.number))

further : (layout : Layout) (fault : Option (ℕ × ℕ)) → IsWithin 24 fault → IsWithin (header_size layout) (after_mark layout fault)
further layout None h = tt
further layout (Some fault) h = omega arith

start : (most rule : ℕ) → IsWithin most (Some (0, rule))
start most rule = omega arith

in_header : (layout : Layout) (schema : Schema) (bytes : List ℕ) → IsWithin (header_size layout) (header_fault layout schema bytes)
in_header layout schema bytes =
    let fields = fields_fault layout schema (header_of layout bytes) in
    either (header_size layout) (has_mark layout bytes) (after_mark layout fields) (Some (0, (rule.BAD_MARK).number)) (further layout fields (in_fields layout schema bytes)) (start (header_size layout) (rule.BAD_MARK).number)

-- a fault of a frame is within its bytes or directly after them
pub fault_within : (layout : Layout) (schema : Schema) (bytes : List ℕ) (offset rule : ℕ) → FrameFault layout schema bytes offset rule → offset ≤ length bytes
fault_within layout schema bytes offset rule (whole, inl e) =
    let here : IsWithin (header_size layout) (Some (offset, rule)) = subst (IsWithin (header_size layout)) e (in_header layout schema bytes) in omega arith
fault_within layout schema bytes offset rule (whole, inr (none, fault)) = let a = fault.1 in let b = fault.3 in omega arith
