-- The code's skin and what its page shows, as plain data; and what code knows of a package before it puts a page.
use Rattle.redl_page.specs.declared.page.Skin as code_skin
use Rattle.redl_page.specs.declared.page.Heading as code_heading
use Rattle.redl_page.specs.declared.page.Shown as code_shown
use Rattle.redl_page.specs.Page.{Heading, Skin, Shown}
use Rattle.redl_page.specs.declared.facts.PageFacts.{PageFacts}
use Rattle.std.specs.Prelude.{◌≡◌, option_map}
use Rattle.redl_tree.specs.Model.Nodes.{Nodes}
use Rattle.redl_places.specs.Places.{package_signs}
use Rattle.redl_places.specs.Views.{signs_of}
use Rattle.redl_hidden.specs.Styles.{package_hidden}
use Rattle.redl_comments.specs.Comments.{comments_of}
use Rattle.redl_comments.specs.Threads.{package_threads}
use Rattle.redl_page_numbers.specs.Package.{package_numbers}
use Rattle.redl_page_pictures.specs.Pictures.{package_pictures}

-- the fixed parts of a page as plain data
abbrev pub skin_view : code_skin.Skin → Skin
skin_view skin = record { policy = skin.policy.now; style = skin.style.now; script = skin.script.now }

-- what the sender gives as plain data
abbrev pub heading_view : code_heading.Heading → Heading
heading_view heading = record { title = option_map (λ title. title.now) heading.title; rank = heading.rank; pictures = heading.pictures }

-- what a page shows as plain data
abbrev pub shown_by : code_shown.Shown → Shown
shown_by page = record {
  nodes = page.package.now;
  revisions = page.index.now;
  locked = page.locked.now;
  said = page.said.now;
  book = page.book.now;
  digest = page.digest.now;
  heading = heading_view page.heading;
}

-- these are the facts of a package
pub record AreFacts (facts : PageFacts) (nodes : Nodes) : Type 0 where
  pub signs : signs_of facts.signs ≡ package_signs nodes
  pub hidden : facts.hidden ≡ package_hidden nodes
  pub numbers : facts.numbers ≡ package_numbers nodes
  pub comments : facts.comments.items ≡ comments_of nodes
  pub threads : facts.threads ≡ package_threads nodes
  pub pictures : facts.pictures ≡ package_pictures nodes
