pub mod PrefixParts
