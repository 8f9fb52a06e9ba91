use Rattle.resp_command.proofs.KnownBytes.{known_exchange}
use Rattle.resp_command.proofs.laws.law_of_commands_in_memory.Goals as goal

pub returns : goal.returns
returns g c = λ old new command r later h works own some answered e. known_exchange old new _ _ r _ later
    ((h.call.when_working works own).otherwise some answered) e
