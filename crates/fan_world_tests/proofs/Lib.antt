mod Classes
