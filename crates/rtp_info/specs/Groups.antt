-- The groups of a spec (RFC 7826, 18.45): each has a label, a colon and parameters.
use Rattle.std.specs.Prelude.{ℕ, ◌+◌, ◌-◌, Bool, true, false, ◌==◌, ◌&&◌, nat_eq, nat_lt, codes, if◌then◌else◌, List, [], ◌∷◌, length, take, drop, Option, Some, None, option_and_then}
use Rattle.std.specs.List.{list_all, starts_with}
use Rattle.std.specs.Char.{is_ascii_hexdigit}
use Rattle.gate_bytes.specs.Tokens.{is_blank, trimmed}
use Rattle.gate_bytes.specs.Ascii.{colon}
use Rattle.gate_bytes.specs.Places.{cut_at, parts_at}
use Rattle.rtp_info.specs.declared.group.TheConstants.{LABEL_DIGITS}
use Rattle.rtp_info.specs.Parts.{is_last, with_first}
use Rattle.rtp_info.specs.Parameters.{Notes, read_parameters}

-- a text that begins with a space or a tab
abbrev pub has_leading_blank : List ℕ → Bool
has_leading_blank [] = false
has_leading_blank (b ∷ text) = is_blank b

-- what a label begins with
abbrev pub label_name : List ℕ
label_name = codes "ssrc="

-- how many bytes a label has
abbrev pub label_length : ℕ
label_length = length label_name + LABEL_DIGITS

-- a label: that name, and so many hexadecimal digits
abbrev pub is_label : List ℕ → Bool
is_label text = length text == label_length && starts_with nat_eq text label_name && list_all is_ascii_hexdigit (drop (length label_name) text)

-- the parameters of a group before the label of the next one, where that is one
abbrev pub label_apart : List ℕ → List ℕ → Option (List ℕ)
label_apart front end = if has_leading_blank end && is_label (drop 1 end) then Some front else None

-- what stands before a blank and a label at the end of a text
abbrev pub before_label : List ℕ → Option (List ℕ)
before_label text =
    if nat_lt (length text) (label_length + 1) then None
    else label_apart (take (length text - (label_length + 1)) text) (drop (length text - (label_length + 1)) text)

-- what a group says: the last one is parameters alone, and each other is parameters and the label of the next
abbrev pub group_of : Bool → List ℕ → Option Notes
group_of true piece = read_parameters piece
group_of false piece = option_and_then read_parameters (before_label piece)

-- what each group says; nothing where one of them is none
abbrev pub each_group : List (List ℕ) → Option (List Notes)
each_group [] = Some []
each_group (piece ∷ more) = with_first (group_of (is_last more) (trimmed piece)) (each_group more)

-- the first of a list
abbrev pub first_note : List Notes → Option Notes
first_note [] = None
first_note (notes ∷ more) = Some notes

-- Of all groups the first counts.
abbrev pub first_group : List (List ℕ) → Option Notes
first_group pieces = option_and_then first_note (each_group pieces)

-- Behind the URI stand a blank and the first label. Colons part what follows into one piece for each group,
-- since a colon stands behind each label and nowhere else.
abbrev pub groups_of : List ℕ → Option Notes
groups_of text = option_and_then (λ parts. if has_leading_blank parts.0 && is_label (trimmed parts.0) then first_group (parts_at colon parts.1) else None) (cut_at colon text)
