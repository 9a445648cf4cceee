mod Escape
