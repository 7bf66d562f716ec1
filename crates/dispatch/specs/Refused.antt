-- An answer of a dispatcher that is a refusal.
use Rattle.std.specs.Prelude.{◌≡◌, ℕ, IsErrAnd, Result}
use Rattle.refusal.specs.declared.DispatchFault.{DispatchFault}
use Rattle.refusal.specs.declared.Layer.TheVariants as layer
use Rattle.refusal.specs.Table.{dispatch_told, refusal}

-- refused with this number
abbrev pub RefusedBy : {T : Type 0} → ℕ → Result T DispatchFault → Type 0
RefusedBy number r = IsErrAnd r (λ e. dispatch_told e ≡ refusal layer.Dispatch number 0 0)
