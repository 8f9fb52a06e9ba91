-- What a contract sees of a pipeline, the bytes that send it, and how many replies it needs.
use Rattle.std.specs.Prelude.{◌≡◌, ℕ, ◌+◌, Bool, true, false, List, [], ◌∷◌, ◌++◌, length, map, codes, if◌then◌else◌}
use Rattle.std.specs.List.{flat_map}
use Rattle.resp_value.specs.declared.value.Value.{Value}
use Rattle.resp_args.specs.Args.{Args}
use Rattle.resp_command.specs.Command.{Command}
use Rattle.resp_command.specs.Packed.{packed, as_value}

-- the commands in order, a mark for each whether its reply is ignored, whether they are one
-- transaction, and whether server errors among the replies are values as others are
pub record Plan : Type 0 where
  pub commands : List Command
  pub ignored : List Bool
  pub atomic : Bool
  pub ignores_errors : Bool

abbrev pub new_plan : Plan
new_plan = record { commands = []; ignored = []; atomic = false; ignores_errors = false }

-- the plan and then one more command, whose reply isn't ignored
abbrev pub with_command : Plan → Command → Plan
with_command p c = record p { commands = p.commands ++ c ∷ []; ignored = p.ignored ++ false ∷ [] }

-- the last command has more arguments, which a value gives; nothing else changed
pub record AppendsToLast (Gives : Args → Type 0) (old new : Plan) : Type 0 where
  pub before : List Command
  pub last : Command
  pub more : Args
  pub was : old.commands ≡ before ++ last ∷ []
  pub given : Gives more
  pub is : new ≡ record old { commands = before ++ record last { args = last.args ++ more } ∷ [] }

-- the marks with the last one set
abbrev pub last_marked : List Bool → List Bool
last_marked [] = []
last_marked (mark ∷ []) = true ∷ []
last_marked (mark ∷ next ∷ marks) = mark ∷ last_marked (next ∷ marks)

-- the argument lists of a transaction: those of its commands between MULTI and EXEC
abbrev pub as_transaction : List Args → List Args
as_transaction lists = (codes "MULTI" ∷ []) ∷ (lists ++ (codes "EXEC" ∷ []) ∷ [])

abbrev pub args_of_commands : List Command → List Args
args_of_commands commands = map (λ c. c.args) commands

-- the argument lists that a pipeline sends, in order
abbrev pub argument_lists : Plan → List Args
argument_lists p =
    if p.atomic then as_transaction (args_of_commands p.commands) else args_of_commands p.commands

-- the bytes that send a pipeline: each argument list packed, in order
abbrev pub request : Plan → List ℕ
request p = flat_map packed (argument_lists p)

-- the values that these bytes spell
abbrev pub as_values : Plan → List Value
as_values p = map as_value (argument_lists p)

-- how many replies a pipeline needs: one to each command, and in a transaction one to MULTI and
-- one to EXEC too
abbrev pub replies_needed : Plan → ℕ
replies_needed p = if p.atomic then length p.commands + 2 else length p.commands
