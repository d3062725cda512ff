-- The names of an end, each for an actor or a resolver.
use Rattle.std.specs.Prelude.{ℕ, Bool, true, false, not, List, [], ◌∷◌, ◌++◌, find, filter, Option, Some, None, option_map}
use Rattle.std.specs.Str.{bytes_eq}
use Rattle.channel_model.specs.Ends.{NameContent, actor, resolver, Naming}
use Rattle.channel_model.specs.Outputs.{Change, ◌▷◌, unchanged, on_end, destroyed}

abbrev pub has_name : List ℕ → Naming → Bool
has_name name naming = bytes_eq naming.name name

-- the content of a name, if it has any
abbrev pub held_by_name : List ℕ → List Naming → Option NameContent
held_by_name name names = option_map (λ naming. naming.holds) (find (has_name name) names)

abbrev pub without_name : List ℕ → List Naming → List Naming
without_name name names = filter (λ naming. not (has_name name naming)) names

-- a resolver that a name loses is destroyed
abbrev pub let_go : Option NameContent → Change
let_go None = unchanged
let_go (Some (actor id)) = unchanged
let_go (Some (resolver r)) = destroyed r

-- a new naming goes last
abbrev pub holding : List ℕ → Option NameContent → List Naming
holding name None = []
holding name (Some holds) = record { name = name; holds = holds } ∷ []

-- a name gets a new content, or loses its content
abbrev pub renamed : List ℕ → Option NameContent → Change
renamed name holds output =
    let before : Option NameContent = held_by_name name output.end.names in
    (on_end (λ e. record e { names = without_name name e.names })
    ▷ let_go before
    ▷ on_end (λ e. record e { names = e.names ++ holding name holds })) output

abbrev pub is_actor : Naming → Bool
is_actor naming = elim naming.holds [ actor id ↦ true | resolver r ↦ false ]

-- the names that are not for resolvers
abbrev pub without_resolvers : List Naming → List Naming
without_resolvers names = filter is_actor names
