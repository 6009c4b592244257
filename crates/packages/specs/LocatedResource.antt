-- The value of a located resource, for the definitions.
use Rattle.packages.specs.Named.{Located}
use Rattle.packages.specs.declared.named.LocatedResource.{LocatedResource}

-- the values that its references point to
abbrev pub located_now : LocatedResource → Located
located_now located = record {
  dataset = located.dataset.now;
  position = located.position;
  resource = located.resource.now;
}
