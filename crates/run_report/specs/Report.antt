-- The report at the end of a run: a line for each connection that entered (this project's own).
use Rattle.std.specs.Prelude.{ℕ, zero, suc, codes, decimal, List, [], ◌∷◌, ◌++◌, Option, Some, None}
use Rattle.hub_queues.specs.declared.receipt.Receipt.{Receipt}
use Rattle.gateway_hub.specs.declared.receipts.Receipts.{Receipts}
use Rattle.gateway_hub.specs.Receipts.{last_receipt, receipt_count}
use Rattle.gateway_claim.specs.Happenings.{close_byte}

-- a name and a number
abbrev pub name_and_number : List ℕ → ℕ → List ℕ
name_and_number name number = name ++ decimal number

-- what came in by a connection
abbrev pub came_text : Receipt → List ℕ
came_text receipt = name_and_number (codes "conn ") receipt.conn ++ (name_and_number (codes " pushed ") receipt.pushed ++ name_and_number (codes " arrived ") receipt.arrived)

-- what went out by it, and why it was closed
abbrev pub went_text : Receipt → List ℕ
went_text receipt = name_and_number (codes " handed ") receipt.handed ++ (name_and_number (codes " taken ") receipt.taken ++ (codes " cause " ++ (close_byte receipt.why ∷ codes "\n")))

-- the line of a receipt
abbrev pub receipt_line : Receipt → List ℕ
receipt_line receipt = came_text receipt ++ went_text receipt

-- the line of a receipt, where there is one
abbrev pub receipt_line_in : Option Receipt → List ℕ
receipt_line_in None = []
receipt_line_in (Some receipt) = receipt_line receipt

-- the lines of the connections below this number
abbrev pub lines_below : ℕ → Receipts → List ℕ
lines_below zero receipts = []
lines_below (suc i) receipts = lines_below i receipts ++ receipt_line_in (last_receipt receipts i)

-- The report: a line for each connection that entered, by rising number, and how often the server was dialled.
abbrev pub report_text : Receipts → List ℕ
report_text receipts = lines_below (receipt_count receipts) receipts ++ codes "dials 1\n"
