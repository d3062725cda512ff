-- The files and the script of a generated case, by its numbers of rounds and actors.
use Rattle.std.specs.Prelude.{ℕ, ◌+◌, ◌-◌, ◌*◌, ◌%◌, List, ◌++◌, codes}
use Rattle.std.specs.Fmt.{decimal}
use Rattle.std.specs.List.{flat_map, range_with_len}

-- the text of the file of the top protocol, which manages the other
abbrev pub holder_text : List ℕ
holder_text = codes "include protocol PLeaf; [NestedUpTo=inside_sync] sync protocol PGen { manages PLeaf; parent: async PLeaf(); [Compress] async Up(int32_t n); };\n"

-- the text of the file of the protocol of the actors
abbrev pub leaf_text : List ℕ
leaf_text = codes "include protocol PGen; [NestedUpTo=inside_sync] sync protocol PLeaf { manager PGen; parent: [Nested=inside_sync] sync Ask(int32_t n) returns (int32_t r); async Get(int32_t n) returns (int32_t r); async __delete__(); child: [Nested=inside_sync] sync Back(int32_t n) returns (int32_t r); };\n"

-- the numbers from 1 to this one
abbrev pub numbers_to : ℕ → List ℕ
numbers_to last = range_with_len 1 last

-- the line that makes an actor
abbrev pub new_line : ℕ → List ℕ
new_line actor = codes "new a" ++ decimal actor ++ codes " top PGen.PLeaf()\n"

-- the actor of a round: each in turn, over and over
abbrev pub actor_of : ℕ → ℕ → ℕ
actor_of actors round = (round - 1) % actors + 1

-- the value that a round sends
abbrev pub value_of : ℕ → ℕ → ℕ
value_of rounds round = (31 * rounds + 17 * round) % 1000

-- the line that sends a message of the actors' protocol with a value
abbrev pub send_line : List ℕ → ℕ → ℕ → List ℕ
send_line message actor value = codes "send a" ++ decimal actor ++ codes " PLeaf." ++ message ++ codes "(" ++ decimal value ++ codes ")\n"

-- the lines of a round, which sends its actor two messages of one value
abbrev pub round_lines : ℕ → ℕ → ℕ → List ℕ
round_lines rounds actors round = send_line (codes "Ask") (actor_of actors round) (value_of rounds round) ++ send_line (codes "Get") (actor_of actors round) (value_of rounds round)

-- the line that deletes an actor
abbrev pub delete_line : ℕ → List ℕ
delete_line actor = codes "send a" ++ decimal actor ++ codes " PLeaf.__delete__()\n"

-- the handlers of both sides
abbrev pub handlers_text : List ℕ
handlers_text =
    codes "parent on PLeaf.Ask\nsend this PLeaf.Back($1)\nreturn ($1)\nend\nparent on PLeaf.Get\nresolve ($1)\nend\nchild on PLeaf.Back\nsend top PGen.Up($1)\nsend top PGen.Up($1)\nreturn ($1)\nend\n"

-- the script: the child makes all actors, goes through the rounds, deletes all actors and closes
abbrev pub script_text : ℕ → ℕ → List ℕ
script_text rounds actors =
    codes "child main\n" ++ flat_map new_line (numbers_to actors) ++ flat_map (round_lines rounds actors) (numbers_to rounds) ++ flat_map delete_line (numbers_to actors) ++ codes "close\nend\n" ++ handlers_text
