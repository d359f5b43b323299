-- Whether the repeater is open, as entries tell it. Document 01, "Refusal numbers": "an open repeater (its opening done) is closed (one entry). A failed closing
-- is recorded and otherwise ignored."
-- Assumes nothing.
use Rattle.std.specs.Prelude.{Bool, true, false, not, ◌&&◌, ◌||◌, cond, List, [], ◌∷◌, eqb}
use Rattle.transcript.specs.declared.Entry.{Entry}
use Rattle.attempts.specs.Attempts.{done, first_of}
use Rattle.history.specs.Histories.{is_closing}

-- one entry later: "1 repeater | .. 1 opens, 0 closes". An opening opens it if it is done; a closing is its end, also one that failed
abbrev pub opened_by : Entry → Bool → Bool
opened_by e opened = cond (eqb e.kind 1) (eqb (first_of e) 1 && done e) opened

unfoldable pub opened_from : Bool → List Entry → Bool
opened_from opened [] = opened
opened_from opened (e ∷ es) = opened_from (opened_by e opened) es

-- after a call's entries: it is shut before them
abbrev pub opened_in : List Entry → Bool
opened_in es = opened_from false es

-- and nothing else is closed: each closing stands after an opening that was done
unfoldable pub closes_open : Bool → List Entry → Bool
closes_open opened [] = true
closes_open opened (e ∷ es) = (not (is_closing e) || opened) && closes_open (opened_by e opened) es
