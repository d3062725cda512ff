-- The context of terms, where an end looks up its names.
use Rattle.std.specs.Prelude.{ℤ, List, ℕ, Option}
use Rattle.ipdl_base.specs.Plain.{plain_values}
use Rattle.handler_script.specs.ValueOf.{TermContext}
use Rattle.script_parts.specs.declared.scope.TermScope.{TermScope}

-- the context of a scope, with the actors that have names
abbrev pub context_of : TermScope → (List ℕ → Option ℤ) → TermContext
context_of scope held = record { this = scope.this; made = scope.made; given = plain_values scope.given.now; held = held }
