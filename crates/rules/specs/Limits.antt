-- Document 01's limits.
use Rattle.std.specs.Prelude.{ℕ, ◌+◌}

abbrev pub max_plugins : ℕ
max_plugins = 32

abbrev pub max_rows : ℕ
max_rows = 1024

-- declared keys
abbrev pub max_dependency_keys : ℕ
max_dependency_keys = 16

abbrev pub max_provision_keys : ℕ
max_provision_keys = 15

abbrev pub max_realm_rows : ℕ
max_realm_rows = 16

-- ports of a finished dependency list
abbrev pub max_dependencies : ℕ
max_dependencies = 48

-- dependencies, anchor and provisions of one plugin
abbrev pub max_plugin_rows : ℕ
max_plugin_rows = max_dependencies + 1 + max_provision_keys
