-- The schema from its rows.
use Rattle.std.proofs.Common.{◌≡◌, ℕ, List, [], ◌∷◌, map, IsSomeAnd, subst, sym}
use Rattle.std.specs.List.{AllZip}
use Rattle.ipdl_base.specs.declared.schema.ProtocolRow.{ProtocolRow}
use Rattle.ipdl_base.specs.declared.schema.Schema.{Schema}
use Rattle.ipdl_base.specs.declared.schema.TypeRow.{TypeRow}
use Rattle.ipdl_syntax.specs.declared.program.Entry.{Entry}
use Rattle.name_table.specs.Decls.{protocol_of}
use Rattle.program_schema.specs.SchemaOf.{AreRows, IsProtocolRow, IsTypeRow, IsSchemaOf}
use Rattle.actor_tables.specs.Numbered.{decl_of, numbering_of, AreNumbersOf}
use Rattle.actor_tables.specs.declared.numbers.SchemaNumbers.{SchemaNumbers}

zip_map : {X Y Z : Type 0} (R : Y → Z → Type 0) (f : X → Y) (xs : List X) (zs : List Z) → AllZip (λ x z. R (f x) z) xs zs → AllZip R (map f xs) zs
zip_map R f [] [] h = h
zip_map R f [] (z ∷ zs) h = h
zip_map R f (x ∷ xs) [] h = h
zip_map R f (x ∷ xs) (z ∷ zs) h = (h.0, zip_map R f xs zs h.1)

abbrev AreProtocolRows : List Entry → SchemaNumbers → List TypeRow → List ProtocolRow → Type 0
AreProtocolRows program numbers types rows =
    AreRows (λ (number file : ℕ) (row : ProtocolRow). IsSomeAnd (protocol_of program file) (λ p. IsProtocolRow program (numbering_of numbers) types number file p row)) 0 numbers.files.items rows

-- rows of all protocols and of all types, by their numbers
pub schema_made : (program read : List Entry) (numbers : SchemaNumbers) (protocols made : List ProtocolRow) (rows types kept : List TypeRow) → read ≡ program → AreNumbersOf read numbers
    → AllZip (λ id. IsTypeRow read (numbering_of numbers) (decl_of id)) numbers.types.items rows → types ≡ rows → AreProtocolRows read numbers types protocols → made ≡ protocols → kept ≡ types
    → IsSchemaOf program (record { protocols = made; types = kept })
schema_made program read numbers protocols made rows types kept same are of_types is of_protocols made_is kept_is =
    let S : List ProtocolRow → List TypeRow → Schema = λ ps ts. record { protocols = ps; types = ts } in
    let whole : IsSchemaOf read (S protocols types) = record {
      numbering = numbering_of numbers;
      files = are.files;
      ids = are.types;
      protocols = of_protocols;
      types = zip_map (IsTypeRow read (numbering_of numbers)) decl_of numbers.types.items types (subst (AllZip (λ id. IsTypeRow read (numbering_of numbers) (decl_of id)) numbers.types.items) (sym is) of_types);
    } in
    subst (λ (p : List Entry). IsSchemaOf p (S made kept)) same (subst (λ (ps : List ProtocolRow). IsSchemaOf read (S ps kept)) (sym made_is) (subst (λ (ts : List TypeRow). IsSchemaOf read (S protocols ts)) (sym kept_is) whole))
