-- The part of a cell in which a byte stands, one byte more.
use Rattle.std.proofs.Common.{◌≡◌, ◌<◌, ◌+◌, ℕ, List, [], ◌∷◌, ◌++◌, get_or, length, take, refl}
use Rattle.std.proofs.Common.{sym, subst}
use Rattle.std.proofs.lemmas.List.{take_more}
use Rattle.csv.specs.Machine.{step}
use Rattle.csv.specs.declared.parser.Config.{Config}
use Rattle.csv.specs.declared.parser.State.{State}
use Rattle.csv.specs.declared.parser.State.TheVariants as st
use Rattle.peslumok_records.specs.cells.Csv.{cells_config, state_after}
use Rattle.peslumok_records.specs.cells.Quotes.{IsStateIn}
use Rattle.peslumok_records.specs.declared.cells.quotes.CellPart.{CellPart}

state_after-push : (config : Config) (s : State) (bytes : List ℕ) (byte : ℕ)
    → state_after config s (bytes ++ byte ∷ []) ≡ (step config (state_after config s bytes) byte).0
state_after-push config s [] byte = refl
state_after-push config s (first ∷ bytes) byte =
    state_after-push config (step config s first).0 bytes byte

-- the part of a cell after the first bytes of a text
abbrev pub IsPartAfter : ℕ → List ℕ → CellPart → Type 0
IsPartAfter d bytes part = IsStateIn part (state_after (cells_config d) st.StartRecord bytes)

pub part_more : (d : ℕ) (text : List ℕ) (at : ℕ) (part next : CellPart) → at < length text
    → ((state : State) → IsStateIn part state
    → IsStateIn next (step (cells_config d) state (get_or text at 0)).0)
    → IsPartAfter d (take at text) part → IsPartAfter d (take (at + 1) text) next
part_more d text at part next within steps has =
    subst (λ bytes. IsPartAfter d bytes next) (sym (take_more text at 0 within))
    (subst (IsStateIn next)
    (sym (state_after-push (cells_config d) st.StartRecord (take at text) (get_or text at 0)))
    (steps (state_after (cells_config d) st.StartRecord (take at text)) has))
