-- No task.
use Rattle.card.specs.declared.types.Task.{Task}

abbrev pub nobody : Task
nobody = record { period = 0; run_time = 0 }
