-- Positions in a file, as far as the types of contexts depend on them.
use Rattle.std.specs.Prelude.{ℕ, List, ◌∷◌, ◌&&◌, ◌||◌, codes, if◌then◌else◌}
use Rattle.std.specs.Str.{bytes_eq}
use Rattle.al_tree.specs.declared.files.FileKind.{FileKind}
use Rattle.al_tree.specs.declared.files.FileKind.TheVariants as kind
use Rattle.al_check_places.specs.Ways.{WayStep, under, nth}
use Rattle.al_check_places.specs.declared.positions.Section as rust_section
use Rattle.al_check_places.specs.declared.positions.Seen.{Seen}
use Rattle.al_check_places.specs.declared.positions.Seen.TheVariants as steps
use Rattle.al_check_places.specs.declared.positions.Position as rust

-- below `on`, in a job with a key, or anywhere else
pub data Section : Type 0 where
  apart in_on : Section
  in_job : List ℕ → Section

pub record Position : Type 0 where
  pub section : Section
  pub seen : Seen

abbrev pub section_of : List WayStep → Section
section_of (under a ∷ under b ∷ more) = if bytes_eq a (codes "on") then in_on
    else if bytes_eq a (codes "jobs") then in_job b else apart
section_of _ = apart

-- A step sees those before it; a job's `outputs` and `environment.url`, and an action's `outputs`,
-- see all.
abbrev pub seen_in_item : List ℕ → ℕ → Seen
seen_in_item k i = if bytes_eq k (codes "steps") then steps.Before i else steps.Nothing

abbrev pub seen_below : List ℕ → List ℕ → Seen
seen_below a b =
    if bytes_eq a (codes "outputs")
    || (bytes_eq a (codes "environment") && bytes_eq b (codes "url")) then steps.Everything
    else steps.Nothing

abbrev pub seen_at : FileKind → List WayStep → Seen
seen_at kind.Workflow (jobs ∷ job ∷ under a ∷ nth i ∷ more) = seen_in_item a i
seen_at kind.Workflow (jobs ∷ job ∷ under a ∷ under b ∷ more) = seen_below a b
seen_at kind.Action (under runs ∷ under a ∷ nth i ∷ more) = seen_in_item a i
seen_at kind.Action (under a ∷ under b ∷ more) = seen_below a b
seen_at _ _ = steps.Nothing

abbrev pub position_of : FileKind → List WayStep → Position
position_of k way = record { section = section_of way; seen = seen_at k way }

-- the meaning of the program's positions
abbrev pub section_view : rust_section.Section → Section
section_view rust_section.TheVariants.Apart = apart
section_view rust_section.TheVariants.On = in_on
section_view (rust_section.TheVariants.Job k) = in_job k.now

abbrev pub position_view : rust.Position → Position
position_view p = record { section = section_view p.section; seen = p.seen }
