-- Environments at positions of their files.
use Rattle.std.specs.Prelude.{◌≡◌, Option}
use Rattle.al_base.specs.Growth.{BeginsWith}
use Rattle.al_types.specs.Types.{Type'}
use Rattle.al_expr_names.specs.declared.names.Context.{Context}
use Rattle.al_yaml_tree.specs.View.{view}
use Rattle.al_tree.specs.Files.{jobs_of}
use Rattle.al_check_places.specs.Positions.{Position, Section, section_view}
use Rattle.al_check_places.specs.declared.positions.Seen.TheVariants.{Before as before}
use Rattle.al_expr_types.specs.Tables.{objects_of}
use Rattle.al_check_objects.specs.Fixed.{strategy_type}
use Rattle.al_check_objects.specs.Numbers.{Means}
use Rattle.al_check_contexts.specs.Contexts.{Owner, context_type_at, job_in, owner_of}
use Rattle.al_check_contexts.specs.Answered.{known_of}
use Rattle.al_check_contexts.specs.Lookups.{step_at}
use Rattle.al_check_contexts.specs.Made.{KeepsJobsOf, jobs_from}
use Rattle.al_check_contexts.specs.Caches.{Keeps}
use Rattle.al_check_contexts.specs.Steps.{ArePrefixes, AreStepsOf}
use Rattle.al_check_contexts.specs.Table.{Shows, position}
use Rattle.al_check_contexts.specs.declared.env.Env.{Env}
use Rattle.al_check_contexts.specs.declared.env.File.{File}

-- the file of an environment
abbrev pub file_of : Env → File
file_of e = e.basis.file

-- the types of contexts at a position of a file, and the steps of a section
abbrev pub types_at : File → Position → Context → Type'
types_at f p = context_type_at f.kind (known_of f.known) (view f.root.now) p

abbrev pub owner_in : File → Section → Option Owner
owner_in f s = owner_of f.kind (view f.root.now) (job_in (jobs_of (view f.root.now)) s)

-- its jobs are the file's; its contexts have the types of its section, where as many steps are seen
-- as it has counted; and the types that it keeps are right
pub record IsAtPosition (e : Env) : Type 0 where
  pub jobs : jobs_from e.basis ≡ jobs_of (view (file_of e).root.now)
  pub shows : Shows e.types e.scope.types
      (types_at (file_of e) (position (section_view e.section) (before e.seen)))
  pub steps : AreStepsOf e.types (known_of (file_of e).known)
      (owner_in (file_of e) (section_view e.section)) e.steps
  pub prefixes : ArePrefixes e.types e.steps
  pub strategy : Means e.types e.basis.strategy strategy_type
  pub job_types : KeepsJobsOf e.types e.basis e.job_types
  pub step_types : Keeps e.types (step_at e.basis.outputs) e.step_types

-- it is at a position of the same file as before, and the types made before stay valid
pub record HasMoved (now old : Env) : Type 0 where
  pub at : IsAtPosition now
  pub file : file_of now ≡ file_of old
  pub kept : BeginsWith (objects_of now.types) (objects_of old.types)
