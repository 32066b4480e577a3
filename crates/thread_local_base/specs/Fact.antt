-- A fact as an assertion that owns nothing.
use base.Fml.{Fml, ftrue, fex}

-- φ holds, and nothing is owned
abbrev pub fact : Type 0 → Fml
fact φ = fex φ (λ _. ftrue)
