-- What contracts see of the options.
use Rattle.std.specs.Prelude.{ℕ, List}
use Rattle.sia_events.specs.Limits.{Limits}
use Rattle.sia_parts.specs.declared.cutting.Part.{Part}
use Rattle.si_audit.specs.declared.options.Form.{Form}
use Rattle.si_audit.specs.declared.options.Level.{Level}

pub record Choices : Type 0 where
  pub workers : ℕ
  pub parts : List Part
  pub form : Form
  pub level : Level
  pub limits : Limits
